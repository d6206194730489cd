-- The bytes of a text in hexadecimal. Assumes nothing.
use Rattle.std.specs.Prelude.{ℕ, ◌+◌, ◌-◌, ◌*◌, ◌&&◌, nat_le, if◌then◌else◌, List, [], ◌∷◌}

-- the digits are `0` to `9`, 48 to 57, and `a` to `f`, 97 to 102; any other byte counts as the digit 0
abbrev pub digit_of : ℕ → ℕ
digit_of c =
    if nat_le 48 c && nat_le c 57 then c - 48
    else if nat_le 97 c && nat_le c 102 then c - 87
    else 0

-- two digits a byte, the high one first; an odd last digit is dropped
unfoldable pub bytes_of : List ℕ → List ℕ
bytes_of [] = []
bytes_of (digit ∷ []) = []
bytes_of (high ∷ low ∷ rest) = (digit_of high * 16 + digit_of low) ∷ bytes_of rest
