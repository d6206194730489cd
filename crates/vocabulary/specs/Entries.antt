-- What placing a line promises: its numbers in the tables. Assumes nothing.
use Rattle.std.specs.Prelude.{◌≡◌, ℕ, ◌<◌, Bool, cond, List, length, Ok, Err, Result, MatchResult}
use Rattle.distinct.specs.Numbering.{number}
use Rattle.names.specs.declared.refusals.Fault.{Fault}
use Rattle.names.specs.declared.refusals.Refusal.TheVariants.{LinesFull}
use Rattle.terms.specs.Nodes.{tree}
use Rattle.terms.specs.Parse.{reading}
use Rattle.terms.specs.Term.{Spelled}
use Rattle.vocabulary.specs.Held.{Held, InOrder, Grew, lexicon}
use Rattle.vocabulary.specs.Lexicon.{Lexicon, term_of}
use Rattle.names.specs.Refusal.{at}
use Rattle.vocabulary.specs.Placing.{OfGloss, OfStatement, OfTie, thus, term_in, place_class, place_link, place_item, place_term}
use Rattle.vocabulary.specs.declared.placed.PlacedGloss.{PlacedGloss}
use Rattle.vocabulary.specs.declared.placed.PlacedStatement.{PlacedStatement}
use Rattle.vocabulary.specs.declared.placed.PlacedTie.{PlacedTie}

-- the name w has number i in xs
abbrev pub IsNumber : ℕ → List (List ℕ) → List ℕ → Type 0
IsNumber i xs w = (i < length xs) × (i ≡ number xs w)

-- node i stands for t
abbrev pub IsTerm : ℕ → Held → Spelled → Type 0
IsTerm i h t = (i < length h.book.nodes) × (tree h.book.nodes i ≡ term_of (lexicon h) t)

-- node i stands for the term that the text s is
abbrev pub IsText : ℕ → Held → List ℕ → Type 0
IsText i h s = (t : Spelled) × (reading s ≡ Ok t) × IsTerm i h t

-- The numbers x of a line are those of the line y, in tables h.

pub record GlossAt (x : PlacedGloss) (y : OfGloss) (h : Held) : Type 0 where
  pub words : y.words ≡ lexicon h
  pub class : y.class ≡ x.class
  pub class_below : x.class < length h.book.classes
  pub term : y.term ≡ tree h.book.nodes x.term
  pub term_below : x.term < length h.book.nodes

pub record Stated (a n : ℕ) (y : OfStatement) (h : Held) : Type 0 where
  pub words : y.words ≡ lexicon h
  pub item : y.item ≡ a
  pub item_below : a < length h.items
  pub term : y.term ≡ tree h.book.nodes n
  pub term_below : n < length h.book.nodes

abbrev pub StatementAt : PlacedStatement → OfStatement → Held → Type 0
StatementAt x y h = Stated x.item x.term y h

pub record TieAt (x : PlacedTie) (y : OfTie) (h : Held) : Type 0 where
  pub words : y.words ≡ lexicon h
  pub link : y.link ≡ x.link
  pub link_below : x.link < length h.book.links
  pub from : y.from ≡ x.from
  pub from_below : x.from < length h.items
  pub to : y.to ≡ x.to
  pub to_below : x.to < length h.items

-- An entry with outcome o answered r, from tables h in order, and left h': its numbers are as P says and h' is in order
-- and has all that h had; a refusal leaves h as it was.
abbrev pub Told : {X Y : Type 0} → Result Y Fault → Result X Fault → (X → Y → Held → Type 0) → Held → Held → Type 0
Told {X} {Y} o r P h h' = MatchResult r (λ x. (y : Y) × (o ≡ Ok y) × P x y h' × InOrder h' × Grew h h') (λ e. (o ≡ Err e) × (h' ≡ h))

-- A query with outcome o was placed: its item is a and its term n, in tables h', which have all that h had.
abbrev pub Queried : Result OfStatement Fault → ℕ → ℕ → Held → Held → Type 0
Queried o a n h h' = (y : OfStatement) × (o ≡ Ok y) × Stated a n y h' × InOrder h' × Grew h h'

-- The steps of an entry, with outcome o, answered r and left h', which has all that h had whether or not they ended.
pub record Stepped {X Y : Type 0} (o : Result Y Fault) (r : Result X Fault) (P : X → Y → Held → Type 0) (h h' : Held) : Type 0 where
  pub grew : Grew h h'
  pub told : MatchResult r (λ x. (y : Y) × (o ≡ Ok y) × P x y h') (λ e. o ≡ Err e)

-- A line's names and terms, placed one after another.

-- a term, by its text
abbrev pub place_text : List ℕ → Lexicon → Result Lexicon Fault
place_text s k = thus (term_in 3 s) (λ t. place_term t k)

-- a gloss, once its class is read
abbrev pub gloss_steps : Lexicon → List ℕ → List ℕ → Result OfGloss Fault
gloss_steps k w s =
    thus (place_class 2 w k) (λ i.
    thus (term_in 3 s) (λ t.
    thus (place_term t i) (λ j.
    Ok (record { words = j; class = number j.classes w; term = term_of j t }))))

-- a statement, once its item is read
abbrev pub state_steps : Lexicon → List ℕ → List ℕ → Bool → Result OfStatement Fault
state_steps k a s room =
    thus (place_item 2 a k) (λ i.
    thus (term_in 3 s) (λ t.
    thus (place_term t i) (λ j.
    cond room (Ok (record { words = j; item = number j.items a; term = term_of j t })) (Err (at 1 LinesFull)))))

-- a tie, once its names are read
abbrev pub tie_steps : Lexicon → List ℕ → List ℕ → List ℕ → Bool → Result OfTie Fault
tie_steps k l a b room =
    thus (place_link 2 l k) (λ h.
    thus (place_item 3 a h) (λ i.
    thus (place_item 4 b i) (λ j.
    cond room (Ok (record { words = j; link = number j.links l; from = number j.items a; to = number j.items b })) (Err (at 1 LinesFull)))))
