-- The first byte that can't stand at its place, as a search over places and bytes. Assumes nothing.
use Rattle.std.proofs.Common.{◌≡◌, ℕ, suc, ◌+◌, ◌<◌, Bool, true, false, not, cond, ltb, List, [], ◌∷◌, length, Some, None, refl, sym, ap, ◌∙◌, add-one, arith}
use Rattle.std.proofs.lemmas.Bool.{cond-false, ne_eqb}
use Rattle.std.proofs.lemmas.Grind.{common_steps}
use Rattle.std.specs.List.{enumerate_from, position_or_len}
use Rattle.names.specs.Name.{fits, flaw}

abbrev pub stops : ℕ × ℕ → Bool
stops p = not (fits p.0 p.1)

abbrev pub first : ℕ → List ℕ → ℕ
first i w = position_or_len stops (enumerate_from i w)

-- one byte more in front
more : (i b : ℕ) (bs : List ℕ) → flaw (suc i) bs ≡ cond (ltb (first (i + 1) bs) (length bs)) (Some (i + 1 + first (i + 1) bs)) None → (t : Bool) → fits i b ≡ t → flaw i (b ∷ bs) ≡ cond (ltb (first i (b ∷ bs)) (length (b ∷ bs))) (Some (i + first i (b ∷ bs))) None
more i b bs rest true e = grind (arith, common_steps)
more i b bs rest false e = grind (arith, common_steps)

pub flaw_first : (i : ℕ) (w : List ℕ) → 0 < i + length w → flaw i w ≡ cond (ltb (first i w) (length w)) (Some (i + first i w)) None
flaw_first i [] h = cond-false _ _ _ (ne_eqb i 0 (λ e. omega (arith, e, h)))
flaw_first i (b ∷ bs) h = more i b bs (ap (λ k. flaw k bs) (sym (add-one i)) ∙ flaw_first (i + 1) bs (omega arith)) (fits i b) refl
