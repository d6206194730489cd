-- The first piece of a text, and the pieces behind it. Assumes nothing.
use Rattle.std.proofs.Common.{◌≡◌, ℕ, zero, suc, ◌+◌, ◌<◌, ◌≤◌, List, [], ◌∷◌, length, get_or, take, drop, ap, ◌∙◌, add-one, arith}
use Rattle.std.proofs.lemmas.Bool.{cond-true, cond-false, eq-eqb, ne_eqb}
use Rattle.std.specs.List.{onto_first}
use Rattle.cut.specs.Ended.{ended}

module _ (b : ℕ) where
  first_ended : (s : List ℕ) (n : ℕ) → 0 < length s → n ≤ length s → ((k : ℕ) → k < n → get_or s k 0 ≡ b → ⊥) → (n < length s → get_or s n 0 ≡ b) → ended b s ≡ take n s ∷ ended b (drop (suc n) s)
  first_ended [] n some within before found = absurd (omega arith)
  first_ended (x ∷ xs) zero some within before found = cond-true _ _ _ (eq-eqb x b (found (omega arith)))
  first_ended (x ∷ []) (suc m) some within before found = let z : m ≡ 0 = omega arith in rw z (cond-false _ _ _ (ne_eqb x b (before 0 (omega arith))))
  first_ended (x ∷ y ∷ ys) (suc m) some within before found =
      cond-false _ _ _ (ne_eqb x b (before 0 (omega arith)))
      ∙ ap (onto_first x) (first_ended (y ∷ ys) m (omega arith) (omega arith) (λ k h. before (suc k) (omega arith)) (λ h. found (omega arith)))

  pub pieces_first : (s rest : List ℕ) (n : ℕ) → 0 < length s → n ≤ length s → ((k : ℕ) → k < n → get_or s k 0 ≡ b → ⊥) → (n < length s → get_or s n 0 ≡ b) → rest ≡ drop (n + 1) s → ended b s ≡ take n s ∷ ended b rest
  pieces_first s rest n some within before found e = first_ended s n some within before found ∙ ap (λ r. take n s ∷ ended b r) (rw (e, add-one))
