-- Terms that are written alike are alike, over names that are names, each once. Assumes nothing.
use Rattle.std.proofs.Common.{◌≡◌, ℕ, ◌+◌, ◌<◌, true, not, List, [], ◌++◌, length, get_or, is_some, Some, None, Ok, Err, Option, sym, refl, ap, ◌∙◌, arith}
use Rattle.distinct.proofs.Places.{number_at}
use Rattle.distinct.specs.Numbering.{Apart, number}
use Rattle.names.proofs.Flaws.{legal_when, when_legal}
use Rattle.names.specs.Name.{flaw, legal, Legal}
use Rattle.tables.specs.Vocabulary.{numbered}
use Rattle.terms.proofs.Language.{parse_complete}
use Rattle.terms.proofs.Trees.{InRange}
use Rattle.terms.specs.Nodes.{spelled}
use Rattle.terms.specs.Parse.{Parsed, parse}
use Rattle.terms.specs.Term.{Term, Spelled, top, bottom, class, neg, and, or, exists, forall, may, must, written, depth, Valid}

-- the number of an entry is its place
pub spot : (xs : List (List ℕ)) → Apart xs → (i : ℕ) → i < length xs → number xs (get_or xs i []) ≡ i
spot xs a i l = number_at xs (get_or xs i []) i l refl (λ k h e. a k i h l e)

pub legal_is : (w : List ℕ) → legal w ≡ true → Legal w
legal_is w e = legal_when w (none (flaw 0 w) e)
  where
    none : (f : Option ℕ) → not (is_some f) ≡ true → f ≡ None
    none None e = refl
    none (Some i) e = cc

pub is_legal : (w : List ℕ) → Legal w → legal w ≡ true
is_legal w l = ap (λ f. not (is_some f)) (when_legal w l)

-- all of them are names
abbrev pub Names : List (List ℕ) → Type 0
Names xs = (k : ℕ) → k < length xs → legal (get_or xs k []) ≡ true

module _ (cs ls : List (List ℕ)) where
  pub numbered_spelled : Apart cs → Apart ls → (t : Term ℕ) → InRange (length cs) (length ls) t → numbered cs ls (spelled cs ls t) ≡ t
  numbered_spelled a b top r = refl
  numbered_spelled a b bottom r = refl
  numbered_spelled a b (class c) r = ap class (spot cs a c r)
  numbered_spelled a b (neg t) r = ap neg (numbered_spelled a b t r)
  numbered_spelled a b (and t u) (r, s) = let p = numbered_spelled a b t r in let q = numbered_spelled a b u s in cc
  numbered_spelled a b (or t u) (r, s) = let p = numbered_spelled a b t r in let q = numbered_spelled a b u s in cc
  numbered_spelled a b (exists l t) (r, s) = let p = spot ls b l r in let q = numbered_spelled a b t s in cc
  numbered_spelled a b (forall l t) (r, s) = let p = spot ls b l r in let q = numbered_spelled a b t s in cc
  numbered_spelled a b (may i t) (r, s) = ap (may i) (numbered_spelled a b t s)
  numbered_spelled a b (must i t) (r, s) = ap (must i) (numbered_spelled a b t s)

  pub spelled_valid : Names cs → Names ls → (t : Term ℕ) → InRange (length cs) (length ls) t → Valid (spelled cs ls t)
  spelled_valid a b top r = tt
  spelled_valid a b bottom r = tt
  spelled_valid a b (class c) r = legal_is (get_or cs c []) (a c r)
  spelled_valid a b (neg t) r = spelled_valid a b t r
  spelled_valid a b (and t u) (r, s) = (spelled_valid a b t r, spelled_valid a b u s)
  spelled_valid a b (or t u) (r, s) = (spelled_valid a b t r, spelled_valid a b u s)
  spelled_valid a b (exists l t) (r, s) = (legal_is (get_or ls l []) (b l r), spelled_valid a b t s)
  spelled_valid a b (forall l t) (r, s) = (legal_is (get_or ls l []) (b l r), spelled_valid a b t s)
  spelled_valid a b (may i t) ((l, h), s) = (l, h, spelled_valid a b t s)
  spelled_valid a b (must i t) ((l, h), s) = (l, h, spelled_valid a b t s)

-- the term that was parsed
abbrev first : Parsed → Spelled
first (Ok p) = p.0
first (Err e) = top

pub written_same : (t u : Spelled) → Valid t → Valid u → written t ≡ written u → t ≡ u
written_same t u v w e =
    let n : ℕ = depth t + depth u in
    let p = parse_complete t 0 n [] v (omega arith) tt in
    let q = parse_complete u 0 n [] w (omega arith) tt in
    ap first (sym p ∙ ap (λ s. parse 0 n (s ++ [])) e ∙ q)
