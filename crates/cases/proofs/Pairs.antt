-- Decoding by pairs of digits, from the front.
use Rattle.std.proofs.Common.{ℕ, ◌+◌, ◌*◌, ◌<◌, ◌≡◌, List, [], ◌∷◌, ◌++◌, length, slice_index, refl, arith}
use Rattle.cases.specs.Hex.{bytes_of, digit_of}

pub pair_first : (pair rest : List ℕ) → length pair ≡ 2
    → bytes_of (pair ++ rest) ≡ (digit_of (slice_index pair 0) * 16 + digit_of (slice_index pair 1)) ∷ bytes_of rest
unfolding bytes_of
pair_first [] rest two = absurd (omega (arith, two))
pair_first (a ∷ []) rest two = absurd (omega (arith, two))
pair_first (a ∷ b ∷ []) rest two = refl
pair_first (a ∷ b ∷ c ∷ more) rest two = absurd (omega (arith, two))

pub few_left : (rest : List ℕ) → length rest < 2 → bytes_of rest ≡ []
unfolding bytes_of
few_left [] few = refl
few_left (a ∷ []) few = refl
few_left (a ∷ b ∷ more) few = absurd (omega (arith, few))
