-- What becomes of a line's names and terms: the refusal that comes first, or their numbers. Assumes nothing.
use Rattle.std.specs.Prelude.{ℕ, Bool, true, cond, ◌&&◌, List, length, Ok, Err, Result, nat_le}
use Rattle.distinct.specs.Numbering.{number}
use Rattle.names.specs.Name.{flaw}
use Rattle.names.specs.Refusal.{at}
use Rattle.names.specs.declared.refusals.Fault.{Fault}
use Rattle.names.specs.declared.refusals.Refusal.{Refusal}
use Rattle.names.specs.declared.refusals.Refusal.TheVariants.{ShortBuffer, NamesFull, TermsFull, LinesFull}
use Rattle.terms.specs.Parse.{named, reading}
use Rattle.terms.specs.Term.{Term, Spelled, written}
use Rattle.terms.specs.declared.nodes.Sort.{Sort}
use Rattle.terms.specs.declared.nodes.Sort.TheVariants.{OfClass, OfLink}
use Rattle.vocabulary.specs.Lexicon.{Lexicon, with_class, with_link, with_item, with_term, term_of}

-- One step, and the next with what it gave; the first refusal ends it.
abbrev pub thus : {X Y : Type 0} → Result X Fault → (X → Result Y Fault) → Result Y Fault
thus (Ok x) f = f x
thus (Err e) f = Err e

-- Input comes first: what a field holds, or its fault.

abbrev pub in_field : {X : Type 0} → ℕ → Result X Refusal → Result X Fault
in_field f (Ok x) = Ok x
in_field f (Err e) = Err (at f e)

abbrev pub name_in : ℕ → List ℕ → Result (List ℕ) Fault
name_in f w = in_field f (named 0 w (flaw 0 w))

abbrev pub term_in : ℕ → List ℕ → Result Spelled Fault
term_in f s = in_field f (reading s)

-- Then places: at most 64 classes, 16 links, 32 items and 256 different terms, parts counted.

abbrev pub place_if : Bool → Fault → Lexicon → Result Lexicon Fault
place_if fits e k = cond fits (Ok k) (Err e)

abbrev pub place_class : ℕ → List ℕ → Lexicon → Result Lexicon Fault
place_class f w k = place_if (nat_le (length (with_class w k).classes) 64) (at f NamesFull) (with_class w k)

abbrev pub place_link : ℕ → List ℕ → Lexicon → Result Lexicon Fault
place_link f w k = place_if (nat_le (length (with_link w k).links) 16) (at f NamesFull) (with_link w k)

abbrev pub place_item : ℕ → List ℕ → Lexicon → Result Lexicon Fault
place_item f w k = place_if (nat_le (length (with_item w k).items) 32) (at f NamesFull) (with_item w k)

-- by the sort of the name
abbrev pub place_name : Sort → ℕ → List ℕ → Lexicon → Result Lexicon Fault
place_name OfClass f w k = place_class f w k
place_name OfLink f w k = place_link f w k

-- names before terms
abbrev pub place_term : Spelled → Lexicon → Result Lexicon Fault
place_term t k =
    cond (nat_le (length (with_term t k).classes) 64 && nat_le (length (with_term t k).links) 16)
    (place_if (nat_le (length (with_term t k).terms) 256) (at 3 TermsFull) (with_term t k))
    (Err (at 3 NamesFull))

-- The vocabulary after a line, and the line over numbers.

pub record OfGloss : Type 0 where
  pub words : Lexicon
  pub class : ℕ
  pub term : Term ℕ

pub record OfStatement : Type 0 where
  pub words : Lexicon
  pub item : ℕ
  pub term : Term ℕ

pub record OfTie : Type 0 where
  pub words : Lexicon
  pub link : ℕ
  pub from : ℕ
  pub to : ℕ

-- class w glossed by t
abbrev pub gloss_words : Lexicon → List ℕ → Spelled → Result OfGloss Fault
gloss_words k w t =
    thus (place_class 2 w k) (λ i.
    thus (place_term t i) (λ j.
    Ok (record { words = j; class = number j.classes w; term = term_of j t })))

-- an item and a term, where `room` says whether one more line may be kept
abbrev pub state_words : Lexicon → List ℕ → List ℕ → Bool → Result OfStatement Fault
state_words k item term room =
    thus (name_in 2 item) (λ a.
    thus (term_in 3 term) (λ t.
    thus (place_item 2 a k) (λ i.
    thus (place_term t i) (λ j.
    cond room (Ok (record { words = j; item = number j.items a; term = term_of j t })) (Err (at 1 LinesFull))))))

-- a link and two items
abbrev pub tie_words : Lexicon → List ℕ → List ℕ → List ℕ → Bool → Result OfTie Fault
tie_words k link from to room =
    thus (name_in 2 link) (λ l.
    thus (name_in 3 from) (λ a.
    thus (name_in 4 to) (λ b.
    thus (place_link 2 l k) (λ h.
    thus (place_item 3 a h) (λ i.
    thus (place_item 4 b i) (λ j.
    cond room (Ok (record { words = j; link = number j.links l; from = number j.items a; to = number j.items b })) (Err (at 1 LinesFull))))))))

-- A query is placed as a statement is, but wants no line.
abbrev pub query_words : Lexicon → List ℕ → List ℕ → Result OfStatement Fault
query_words k item term = state_words k item term true

-- The bytes that a term is written with into a buffer of `room` bytes.
abbrev pub spelling : Lexicon → List ℕ → ℕ → Result (List ℕ) Fault
spelling k term room =
    thus (term_in 3 term) (λ t.
    thus (place_term t k) (λ _.
    cond (nat_le (length (written t)) room) (Ok (written t)) (Err (at 0 ShortBuffer))))
