-- What a line's fault tells is short: its field, its number and its place. Assumes nothing.
use Rattle.std.proofs.Common.{ℕ, ◌+◌, ◌≤◌, Bool, true, cond, ◌&&◌, eqb, ltb, leb, List, [], length, get_or, Some, None, Ok, Err, Option, Result, arith}
use Rattle.std.proofs.lemmas.Bool.{cond_both}
use Rattle.lines.proofs.Cuts.{piece_short}
use Rattle.lines.specs.Pieces.{pieces}
use Rattle.lines.specs.Stages.{letter_of, followed, width}
use Rattle.lines.specs.declared.letters.Letter.{Letter}
use Rattle.lines.specs.declared.letters.Letter.TheVariants.{Heading, Gloss, Statement, Tie, Question}
use Rattle.lines.specs.declared.letters.Stage.{Stage}
use Rattle.names.specs.Name.{flaw}
use Rattle.names.specs.Refusal.{number, place_of, at}
use Rattle.names.specs.declared.refusals.Fault.{Fault}
use Rattle.names.specs.declared.refusals.Refusal.{Refusal}
use Rattle.names.specs.declared.refusals.Refusal.TheVariants.{BadName, BadOperator, EndsEarly, LeftOver, StraySpace, TooDeep, UnknownLetter, WrongStage, FieldCount, Unended, FileTooLong, ShortBuffer, NamesFull, TermsFull, GlossedAlready, Circle, LinesFull, NoMemory}
use Rattle.register.specs.Progress.{Progress, second, third, fourth, taken, of_kind, at_stage, of_letter, progress_after}
use Rattle.sheet.specs.Content.{Content, statements, ties}
use Rattle.sheet.specs.Outcome.{glossed, circular, glossing, stating, tying}
use Rattle.terms.proofs.Places.{Near, near_named, near_more, near_reading, flaw_early}
use Rattle.terms.specs.Parse.{named, reading}
use Rattle.terms.specs.Term.{Spelled}
use Rattle.vocabulary.specs.Lexicon.{Lexicon, with_class, with_link, with_item, with_term}
use Rattle.vocabulary.specs.Placing.{thus, in_field, name_in, term_in, place_if, place_class, place_link, place_item, place_term, gloss_words, state_words, tie_words, query_words}

number_small : (e : Refusal) → number e ≤ 100
number_small (BadName p) = omega arith
number_small (BadOperator p) = omega arith
number_small (EndsEarly p) = omega arith
number_small (LeftOver p) = omega arith
number_small (StraySpace p) = omega arith
number_small (TooDeep p) = omega arith
number_small UnknownLetter = omega arith
number_small WrongStage = omega arith
number_small FieldCount = omega arith
number_small Unended = omega arith
number_small FileTooLong = omega arith
number_small ShortBuffer = omega arith
number_small NamesFull = omega arith
number_small TermsFull = omega arith
number_small GlossedAlready = omega arith
number_small Circle = omega arith
number_small LinesFull = omega arith
number_small NoMemory = omega arith

-- a fault at one of four fields, or at none, and at a place up to m
pub record Small (m : ℕ) (e : Fault) : Type 0 where
  pub field : e.field ≤ 4
  pub number : number e.refusal ≤ 100
  pub place : place_of e.refusal ≤ m

abbrev pub Faulty : {X : Type 0} → ℕ → Result X Fault → Type 0
Faulty m (Ok x) = Unit {0}
Faulty m (Err e) = Small m e

pub small_at : (m f : ℕ) (e : Refusal) → f ≤ 4 → place_of e ≤ m → Small m (at f e)
small_at m f e h p = record { field = h; number = number_small e; place = p }

thus_faulty : {X Y : Type 0} (m : ℕ) (r : Result X Fault) (f : X → Result Y Fault) → Faulty m r → ((x : X) → Faulty m (f x)) → Faulty m (thus r f)
thus_faulty m (Ok x) f h g = g x
thus_faulty m (Err e) f h g = h

cond_faulty : {X : Type 0} (m : ℕ) (b : Bool) (x y : Result X Fault) → Faulty m x → Faulty m y → Faulty m (cond b x y)
cond_faulty m b x y hx hy = cond_both b x y (Faulty m) (λ _. hx) (λ _. hy)

field_faulty : {X : Type 0} (m f : ℕ) (r : Result X Refusal) → f ≤ 4 → Near m r → Faulty m (in_field f r)
field_faulty m f (Ok x) h n = tt
field_faulty m f (Err e) h n = small_at m f e h n

-- in a field of at most n bytes
module _ (m n : ℕ) (room : n + 16 ≤ m) where
  name_faulty : (f : ℕ) (w : List ℕ) → f ≤ 4 → Faulty m (name_in f w)
  name_faulty f w h = field_faulty m f (named 0 w (flaw 0 w)) h (near_named m 0 w (flaw 0 w) (flaw_early w) (omega arith))

  term_faulty : (f : ℕ) (s : List ℕ) → f ≤ 4 → length s ≤ n → Faulty m (term_in f s)
  term_faulty f s h l = field_faulty m f (reading s) h (near_more (length s + 16) m (reading s) (omega arith) (near_reading s))

  if_faulty : (b : Bool) (f : ℕ) (k : Lexicon) → f ≤ 4 → Faulty m (place_if b (at f NamesFull) k)
  if_faulty b f k h = cond_faulty m b (Ok k) (Err (at f NamesFull)) tt (small_at m f NamesFull h (omega arith))

  place_term_faulty : (t : Spelled) (k : Lexicon) → Faulty m (place_term t k)
  place_term_faulty t k =
      cond_faulty m (leb (length (with_term t k).classes) 64 && leb (length (with_term t k).links) 16)
      (place_if (leb (length (with_term t k).terms) 256) (at 3 TermsFull) (with_term t k)) (Err (at 3 NamesFull))
      (cond_faulty m (leb (length (with_term t k).terms) 256) (Ok (with_term t k)) (Err (at 3 TermsFull)) tt (small_at m 3 TermsFull (omega arith) (omega arith)))
      (small_at m 3 NamesFull (omega arith) (omega arith))

  gloss_words_faulty : (k : Lexicon) (w : List ℕ) (t : Spelled) → Faulty m (gloss_words k w t)
  gloss_words_faulty k w t =
      thus_faulty m (place_class 2 w k) _ (if_faulty (leb (length (with_class w k).classes) 64) 2 (with_class w k) (omega arith)) (λ i.
      thus_faulty m (place_term t i) _ (place_term_faulty t i) (λ j. tt))

  state_words_faulty : (k : Lexicon) (item term : List ℕ) (b : Bool) → length term ≤ n → Faulty m (state_words k item term b)
  state_words_faulty k item term b l =
      thus_faulty m (name_in 2 item) _ (name_faulty 2 item (omega arith)) (λ a.
      thus_faulty m (term_in 3 term) _ (term_faulty 3 term (omega arith) l) (λ t.
      thus_faulty m (place_item 2 a k) _ (if_faulty (leb (length (with_item a k).items) 32) 2 (with_item a k) (omega arith)) (λ i.
      thus_faulty m (place_term t i) _ (place_term_faulty t i) (λ j.
      cond_faulty m b _ (Err (at 1 LinesFull)) tt (small_at m 1 LinesFull (omega arith) (omega arith))))))

  tie_words_faulty : (k : Lexicon) (link from to : List ℕ) (b : Bool) → Faulty m (tie_words k link from to b)
  tie_words_faulty k link from to b =
      thus_faulty m (name_in 2 link) _ (name_faulty 2 link (omega arith)) (λ l.
      thus_faulty m (name_in 3 from) _ (name_faulty 3 from (omega arith)) (λ a.
      thus_faulty m (name_in 4 to) _ (name_faulty 4 to (omega arith)) (λ c.
      thus_faulty m (place_link 2 l k) _ (if_faulty (leb (length (with_link l k).links) 16) 2 (with_link l k) (omega arith)) (λ h.
      thus_faulty m (place_item 3 a h) _ (if_faulty (leb (length (with_item a h).items) 32) 3 (with_item a h) (omega arith)) (λ i.
      thus_faulty m (place_item 4 c i) _ (if_faulty (leb (length (with_item c i).items) 32) 4 (with_item c i) (omega arith)) (λ j.
      cond_faulty m b _ (Err (at 1 LinesFull)) tt (small_at m 1 LinesFull (omega arith) (omega arith))))))))

  glossing_faulty : (k : Content) (class term : List ℕ) → length term ≤ n → Faulty m (glossing k class term)
  glossing_faulty k class term l =
      thus_faulty m (name_in 2 class) _ (name_faulty 2 class (omega arith)) (λ w.
      thus_faulty m (term_in 3 term) _ (term_faulty 3 term (omega arith) l) (λ t.
      cond_faulty m (glossed k w) (Err (at 2 GlossedAlready)) _ (small_at m 2 GlossedAlready (omega arith) (omega arith))
      (cond_faulty m (circular k w t) (Err (at 3 Circle)) _ (small_at m 3 Circle (omega arith) (omega arith))
      (thus_faulty m (gloss_words k.words w t) _ (gloss_words_faulty k.words w t) (λ p. tt)))))

  stating_faulty : (k : Content) (item term : List ℕ) → length term ≤ n → Faulty m (stating k item term)
  stating_faulty k item term l =
      thus_faulty m (state_words k.words item term (ltb (statements k.lines) 128)) _ (state_words_faulty k.words item term (ltb (statements k.lines) 128) l) (λ p. tt)

  tying_faulty : (k : Content) (link from to : List ℕ) → Faulty m (tying k link from to)
  tying_faulty k link from to =
      thus_faulty m (tie_words k.words link from to (ltb (ties k.lines) 64)) _ (tie_words_faulty k.words link from to (ltb (ties k.lines) 64)) (λ p. tt)

module _ (m : ℕ) (line : List ℕ) (room : length line + 16 ≤ m) where
  taken_faulty : (l : Letter) (k : Content) → Faulty m (taken l line k)
  taken_faulty Heading k = tt
  taken_faulty Gloss k = glossing_faulty m (length line) room k (second line) (third line) (piece_short 9 line 2)
  taken_faulty Statement k = stating_faulty m (length line) room k (second line) (third line) (piece_short 9 line 2)
  taken_faulty Tie k = tying_faulty m (length line) room k (second line) (third line) (fourth line)
  taken_faulty Question k =
      thus_faulty m (query_words k.words (second line) (third line)) _ (state_words_faulty m (length line) room k.words (second line) (third line) true (piece_short 9 line 2)) (λ _. tt)

  kind_faulty : (l : Letter) (s : Stage) (p : Progress) → Faulty m (of_kind l s line p)
  kind_faulty l s p =
      cond_faulty m (eqb (length (pieces 9 line)) (width l)) _ (Err (at 0 FieldCount))
      (thus_faulty m (taken l line p.content) _ (taken_faulty l p.content) (λ k. tt))
      (small_at m 0 FieldCount (omega arith) (omega arith))

  stage_faulty : (o : Option Stage) (l : Letter) (p : Progress) → Faulty m (at_stage o l line p)
  stage_faulty None l p = small_at m 0 WrongStage (omega arith) (omega arith)
  stage_faulty (Some s) l p = kind_faulty l s p

  letter_faulty : (o : Option Letter) (p : Progress) → Faulty m (of_letter o line p)
  letter_faulty None p = small_at m 0 UnknownLetter (omega arith) (omega arith)
  letter_faulty (Some l) p = stage_faulty (followed p.stage l) l p

  pub line_faulty : (p : Progress) → Faulty m (progress_after line p)
  line_faulty p = letter_faulty (letter_of (get_or (pieces 9 line) 0 [])) p
