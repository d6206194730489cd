-- Bytes put into a buffer, each piece behind the last. Assumes nothing.
use Rattle.std.specs.Prelude.{◌≡◌, ℕ, ◌+◌, ◌≤◌, List, ◌++◌, length, take, drop}
use Rattle.expressions.specs.declared.writers.Writer.{Writer}

-- the buffer d with the bytes s over those from `at` on
abbrev pub over : List ℕ → ℕ → List ℕ → List ℕ
over d at s = take at d ++ (s ++ drop (at + length s) d)

-- the bytes s fit behind those that were put
pub record Room (w : Writer) (s : List ℕ) : Type 0 where
  pub fits : w.at + length s ≤ length w.out.now

-- v is w once the bytes s were put
pub record Added (w : Writer) (s : List ℕ) (v : Writer) : Type 0 where
  pub fits : w.at + length s ≤ length w.out.now
  pub same_buffer : v.out.ghost_name ≡ w.out.ghost_name
  pub end : v.at ≡ w.at + length s
  pub text : v.out.now ≡ over w.out.now w.at s
