-- A text has no more pieces than bytes.
use Rattle.std.proofs.Common.{ℕ, suc, ◌≤◌, ◌==◌, cond, true, false, List, [], ◌∷◌, length, arith}
use Rattle.std.specs.List.{onto_first}
use Rattle.cut.specs.Ended.{ended}

joined_few : (x : ℕ) (ps : List (List ℕ)) → length (onto_first x ps) ≤ suc (length ps)
joined_few x [] = omega arith
joined_few x (p ∷ ps) = omega arith

pub pieces_few : (b : ℕ) (xs : List ℕ) → length (ended b xs) ≤ length xs
pieces_few b [] = omega arith
pieces_few b (x ∷ xs) =
    let most = pieces_few b xs in
    let joined = joined_few x (ended b xs) in
    elim (x == b) as (λ e. length (cond e ([] ∷ ended b xs) (onto_first x (ended b xs))) ≤ suc (length xs)) [ true ↦ omega (arith, most) | false ↦ omega (arith, joined, most) ]
