-- The steps of an entry, one after another. Assumes nothing.
use Rattle.std.proofs.Common.{◌≡◌, ℕ, ◌<◌, Bool, true, false, cond, List, length, Ok, Err, Result, MatchResult, sym, refl, ap, ◌∙◌, subst, arith}
use Rattle.std.proofs.lemmas.Bool.{cond-true, cond-false}
use Rattle.distinct.specs.Numbering.{number}
use Rattle.names.specs.declared.refusals.Fault.{Fault}
use Rattle.names.specs.declared.refusals.Refusal.TheVariants.{LinesFull}
use Rattle.tables.proofs.Numbers.{front_long, front_number}
use Rattle.tables.specs.Entry.{Front}
use Rattle.names.specs.declared.refusals.Refusal.{Refusal}
use Rattle.terms.specs.Parse.{reading}
use Rattle.terms.specs.Term.{Spelled}
use Rattle.vocabulary.proofs.Placings.{grew_refl, grew_trans}
use Rattle.vocabulary.specs.Entries.{IsNumber, IsTerm, IsText, place_text, GlossAt, Stated, TieAt, Stepped, Told}
use Rattle.vocabulary.specs.Held.{Held, InOrder, Grew, Placed, lexicon}
use Rattle.vocabulary.specs.Lexicon.{Lexicon, term_of}
use Rattle.names.specs.Refusal.{at}
use Rattle.vocabulary.specs.Placing.{thus, in_field, term_in, place_term}

-- a name keeps its number
pub number_moved : (xs ys : List (List ℕ)) (w : List ℕ) (i : ℕ) → Front xs ys → IsNumber i xs w → IsNumber i ys w
number_moved xs ys w i f (l, e) =
    let long = front_long xs ys f in
    let same = front_number xs ys w f (subst (λ k. k < length xs) e l) in (omega arith, e ∙ sym same)

text_stops : {Y : Type 0} (k : Lexicon) (f : Spelled → Lexicon → Result Y Fault) (e : Fault) (r : Result Spelled Refusal) → thus (in_field 3 r) (λ t. place_term t k) ≡ Err e → thus (in_field 3 r) (λ t. thus (place_term t k) (f t)) ≡ Err e
text_stops k f e (Ok t) q = ap (λ x. thus x (f t)) q
text_stops k f e (Err x) q = cc

module _ {X Y : Type 0} {R : X → Y → Held → Type 0} where
  -- a step that was refused
  pub stops : {Z : Type 0} {o : Result Lexicon Fault} {P : Z → Held → Type 0} {e : Fault} {h h' : Held} (f : Lexicon → Result Y Fault) → Placed o (Err e) P h h' → Stepped (thus o f) (Err e) R h h'
  stops f p = record { grew = p.grew; told = ap (λ r. thus r f) p.told }

  -- a step that was taken, and those after it
  pub goes : {Z : Type 0} {o : Result Lexicon Fault} {P : Z → Held → Type 0} {z : Z} {r : Result X Fault} {h i j : Held} (f : Lexicon → Result Y Fault) → Placed o (Ok z) P h i → (P z i → Stepped (f (lexicon i)) r R i j) → Stepped (thus o f) r R h j
  goes {r = r} {h = h} {i = i} {j = j} f p next =
      let (e, q) = p.told in
      let rest = next q in
      subst (λ x. Stepped x r R h j) (sym (ap (λ x. thus x f) e)) (record { grew = grew_trans h i j p.grew rest.grew; told = rest.told })

  -- a term that was refused, and one that was placed

  pub stops_text : (s : List ℕ) (k : Lexicon) {e : Fault} {h h' : Held} (f : Spelled → Lexicon → Result Y Fault) → Placed (place_text s k) (Err e) (λ i j. IsText i j s) h h' → Stepped (thus (term_in 3 s) (λ t. thus (place_term t k) (f t))) (Err e) R h h'
  stops_text s k f p = record { grew = p.grew; told = text_stops k f _ (reading s) p.told }

  pub goes_text : (s : List ℕ) (k : Lexicon) {n : ℕ} {r : Result X Fault} {h i j : Held} (f : Spelled → Lexicon → Result Y Fault) → Placed (place_text s k) (Ok n) (λ a b. IsText a b s) h i → ((t : Spelled) → IsTerm n i t → Stepped (f t (lexicon i)) r R i j) → Stepped (thus (term_in 3 s) (λ t. thus (place_term t k) (f t))) r R h j
  goes_text s k {r = r} {h = h} {i = i} {j = j} f p next =
      let (e, (t, read, is)) = p.told in
      let rest = next t is in
      let fits = sym (ap (λ x. thus (in_field 3 x) (λ u. place_term u k)) read) ∙ e in
      subst (λ x. Stepped x r R h j) (sym (ap (λ x. thus (in_field 3 x) (λ u. thus (place_term u k) (f u))) read ∙ ap (λ x. thus x (f t)) fits)) (record { grew = grew_trans h i j p.grew rest.grew; told = rest.told })

  pub ends : {x : X} (y : Y) {h : Held} → R x y h → Stepped (Ok y) (Ok x) R h h
  ends y {h = h} q = record { grew = grew_refl h; told = (y, refl, q) }

  -- where one more line may be kept, and where not

  pub ends_room : {room : Bool} {x : X} (y : Y) {h : Held} → room ≡ true → R x y h → Stepped (cond room (Ok y) (Err (at 1 LinesFull))) (Ok x) R h h
  ends_room {room} {x} y {h} e q = subst (λ o. Stepped o (Ok x) R h h) (sym (cond-true room (Ok y) (Err (at 1 LinesFull)) e)) (ends y q)

  pub ends_full : {room : Bool} (y : Y) {h : Held} → room ≡ false → Stepped (cond room (Ok y) (Err (at 1 LinesFull))) (Err (at 1 LinesFull)) R h h
  ends_full {room} y {h} e = record { grew = grew_refl h; told = cond-false room (Ok y) (Err (at 1 LinesFull)) e }

  -- the steps of an entry, kept where they ended and taken back where not
  pub entered : {o q : Result Y Fault} (r : Result X Fault) {h i j : Held} → o ≡ q → Stepped q r R h i → InOrder j → MatchResult r (λ _. j ≡ i) (λ _. j ≡ h) → Told o r R h j
  entered (Ok x) {h} e s order kept = let (y, f, p) = s.told in (y, e ∙ f, subst (R x y) (sym kept) p, order, subst (Grew h) (sym kept) s.grew)
  entered (Err x) e s order kept = (e ∙ s.told, kept)

-- the lines themselves, at their numbers

pub gloss_at : (w : List ℕ) (t : Spelled) (a n : ℕ) (i j : Held) → Grew i j → IsNumber a i.book.classes w → IsTerm n j t → GlossAt (record { class = a; term = n }) (record { words = lexicon j; class = number (lexicon j).classes w; term = term_of (lexicon j) t }) j
gloss_at w t a n i j g p q =
    let (below, same) = number_moved i.book.classes j.book.classes w a g.classes p in
    record { words = refl; class = sym same; class_below = below; term = sym q.1; term_below = q.0 }

pub statement_at : (w : List ℕ) (t : Spelled) (a n : ℕ) (i j : Held) → Grew i j → IsNumber a i.items w → IsTerm n j t → Stated a n (record { words = lexicon j; item = number (lexicon j).items w; term = term_of (lexicon j) t }) j
statement_at w t a n i j g p q =
    let (below, same) = number_moved i.items j.items w a g.items p in
    record { words = refl; item = sym same; item_below = below; term = sym q.1; term_below = q.0 }

pub tie_at : (l v w : List ℕ) (n a b : ℕ) (h i j : Held) → Grew h i → Grew i j → IsNumber n h.book.links l → IsNumber a i.items v → IsNumber b j.items w → TieAt (record { link = n; from = a; to = b }) (record { words = lexicon j; link = number (lexicon j).links l; from = number (lexicon j).items v; to = number (lexicon j).items w }) j
tie_at l v w n a b h i j p q x y z =
    let (link_below, link) = number_moved h.book.links j.book.links l n (grew_trans h i j p q).links x in
    let (from_below, from) = number_moved i.items j.items v a q.items y in
    record { words = refl; link = sym link; link_below = link_below; from = sym from; from_below = from_below; to = sym z.1; to_below = z.0 }
