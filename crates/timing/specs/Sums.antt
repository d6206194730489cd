-- Sums of what comes of work done again and again. Assumes nothing.
use Rattle.std.specs.Prelude.{◌≡◌, ℕ, zero, suc, ◌+◌, ◌-◌, ◌^◌, min}

-- n is a sum of k numbers of which P holds, held at the most that a count can be
abbrev pub Sums : (ℕ → Type 0) → ℕ → ℕ → Type 0
Sums P zero n = n ≡ 0
Sums P (suc k) n = (m : ℕ) × (i : ℕ) × Sums P k m × P i × (n ≡ min (m + i) (2 ^ 64 - 1))
