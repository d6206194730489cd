-- The line that tells a fault: F, the line's number, the field's, the refusal's, and its place. Assumes nothing.
use Rattle.std.specs.Prelude.{ℕ, List, [], ◌∷◌, ◌++◌, decimal}

abbrev pub fault_line : ℕ → ℕ → ℕ → ℕ → List ℕ
fault_line line field number place = 70 ∷ (9 ∷ (decimal line ++ (9 ∷ (decimal field ++ (9 ∷ (decimal number ++ (9 ∷ (decimal place ++ (10 ∷ [])))))))))
