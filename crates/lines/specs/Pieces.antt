-- A text cut at each byte b. Assumes nothing.
use Rattle.std.specs.Prelude.{ℕ, ◌<◌, List, length, ◌==◌, ◌≢◌, slice_index}
use Rattle.std.specs.List.{slice_split}

-- what stands before, between and behind the bytes b: one piece more than there are such bytes
abbrev pub pieces : ℕ → List ℕ → List (List ℕ)
pieces b = slice_split (λ x. x == b)

-- no byte of the text is b
abbrev pub Lacks : ℕ → List ℕ → Type 0
Lacks b s = (k : ℕ) → k < length s → slice_index s k ≢ b
