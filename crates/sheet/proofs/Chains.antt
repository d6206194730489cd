-- A chain of steps that ends well went well at each of them. Assumes nothing.
use Rattle.std.proofs.Common.{◌≡◌, ℕ, Bool, true, false, cond, ◌&&◌, leb, List, length, Ok, Err, Result, refl, ap, ◌∙◌}
use Rattle.distinct.specs.Numbering.{number}
use Rattle.names.specs.Refusal.{at}
use Rattle.names.specs.declared.refusals.Fault.{Fault}
use Rattle.names.specs.declared.refusals.Refusal.TheVariants.{NamesFull, TermsFull}
use Rattle.terms.specs.Term.{Spelled}
use Rattle.vocabulary.specs.Lexicon.{Lexicon, with_class, with_term, term_of}
use Rattle.vocabulary.specs.Placing.{OfGloss, thus, place_if, place_class, place_term, gloss_words}

module _ {X Y : Type 0} where
  pub thus_ok : (r : Result X Fault) (f : X → Result Y Fault) (y : Y) → thus r f ≡ Ok y → (x : X) × (r ≡ Ok x) × (f x ≡ Ok y)
  thus_ok (Ok x) f y e = (x, refl, e)
  thus_ok (Err d) f y e = absurd (cc)

module _ {Y : Type 0} (r : Result Y Fault) (e : Fault) (y : Y) where
  -- past a test that would refuse
  pub past : (b : Bool) → cond b (Err e) r ≡ Ok y → (b ≡ false) × (r ≡ Ok y)
  past true h = absurd (cc)
  past false h = (refl, h)

  -- a test that was passed
  pub passed : (b : Bool) → cond b r (Err e) ≡ Ok y → (b ≡ true) × (r ≡ Ok y)
  passed true h = (refl, h)
  passed false h = absurd (cc)

pub same_ok : {Y : Type 0} (x y : Y) → ◌≡◌ {A = Result Y Fault} (Ok x) (Ok y) → x ≡ y
same_ok x y h = cc

-- what was placed is what was to be placed

pub placed_is : (b : Bool) (e : Fault) (k j : Lexicon) → place_if b e k ≡ Ok j → k ≡ j
placed_is b e k j h = same_ok k j (passed (Ok k) e j b h).1

pub term_is : (t : Spelled) (k j : Lexicon) → place_term t k ≡ Ok j → with_term t k ≡ j
term_is t k j h =
    let fits = leb (length (with_term t k).terms) 256 in
    placed_is fits (at 3 TermsFull) (with_term t k) j (passed (place_if fits (at 3 TermsFull) (with_term t k)) (at 3 NamesFull) j (leb (length (with_term t k).classes) 64 && leb (length (with_term t k).links) 16) h).1

pub gloss_is : (k : Lexicon) (w : List ℕ) (t : Spelled) (y : OfGloss) → gloss_words k w t ≡ Ok y → record { words = with_term t (with_class w k); class = number (with_term t (with_class w k)).classes w; term = term_of (with_term t (with_class w k)) t } ≡ y
gloss_is k w t y o =
    let (i, p, e) = thus_ok (place_class 2 w k) _ y o in
    let (j, q, f) = thus_ok (place_term t i) _ y e in
    let words : with_term t (with_class w k) ≡ j = ap (with_term t) (placed_is _ _ _ i p) ∙ term_is t i j q in
    (λ x. record { words = words x; class = number (words x).classes w; term = term_of (words x) t }) ∙ same_ok _ y f
