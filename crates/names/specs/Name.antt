-- What a name is: 1 to 16 bytes, letters, digits and bytes from 128 on, the first no digit. Assumes nothing.
use Rattle.std.specs.Prelude.{◌≡◌, ℕ, suc, ◌<◌, ◌≤◌, Bool, true, cond, not, ◌&&◌, ◌||◌, ◌⊎◌, List, [], ◌∷◌, ◌++◌, length, take, is_some, Some, None, Option, ◌==◌, nat_le, nat_lt, slice_index}

-- A to Z, a to z, and the bytes from 128 on
abbrev pub opens : ℕ → Bool
opens b = (nat_le 65 b && nat_le b 90) || (nat_le 97 b && nat_le b 122) || nat_le 128 b

-- those and 0 to 9
abbrev pub follows : ℕ → Bool
follows b = opens b || (nat_le 48 b && nat_le b 57)

-- a name, in words
pub record Legal (w : List ℕ) : Type 0 where
  pub some : 0 < length w
  pub short : length w ≤ 16
  pub first : opens (slice_index w 0) ≡ true
  pub rest : (k : ℕ) → k < length w → follows (slice_index w k) ≡ true

-- may this byte stand at place i of a name?
abbrev pub fits : ℕ → ℕ → Bool
fits i b = cond (i == 0) (opens b) (nat_lt i 16 && follows b)

-- Where the bytes from the i-th on keep a word from being a name, if they do: an empty word at 0, else the first
-- byte that can't stand at its place, and the 17th at the latest.
abbrev pub flaw : ℕ → List ℕ → Option ℕ
flaw i [] = cond (i == 0) (Some 0) None
flaw i (b ∷ bs) = cond (fits i b) (flaw (suc i) bs) (Some i)

abbrev pub legal : List ℕ → Bool
legal w = not (is_some (flaw 0 w))

-- What the place of the first flaw says: what stands before it begins a name, and with the byte there it begins none.
pub record FirstFlaw (w : List ℕ) (p : ℕ) : Type 0 where
  pub exact : flaw 0 w ≡ Some p
  pub before : (p ≡ 0) ⊎ Legal (take p w)
  pub stops : p < length w → (u : List ℕ) → Legal (take (suc p) w ++ u) → ⊥
  pub empty : length w ≤ p → length w ≡ 0
