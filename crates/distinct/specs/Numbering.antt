-- Entries numbered by their places, told apart by what they show. Assumes nothing.
use Rattle.std.specs.Prelude.{◌≡◌, ℕ, suc, ◌<◌, Bool, cond, List, [], ◌∷◌, ◌++◌, map, length, Some, None, Option, MatchOption, ◌≢◌, nat_lt, slice_index_or}
use Rattle.std.specs.Str.{bytes_eq}

-- no two entries show the same
abbrev pub Apart : List (List ℕ) → Type 0
Apart xs = (i j : ℕ) → i < j → j < length xs → slice_index_or xs i [] ≢ slice_index_or xs j []

-- what a look-up of x finds: a place that shows x, or none where no place does
abbrev pub Found : List (List ℕ) → List ℕ → Option ℕ → Type 0
Found xs x r = MatchOption r ((k : ℕ) → k < length xs → slice_index_or xs k [] ≢ x) (λ i. (i < length xs) × (slice_index_or xs i [] ≡ x))

-- the number of x: its first place, or how many entries there are where it is new
abbrev pub number : List (List ℕ) → List ℕ → ℕ
number [] x = 0
number (y ∷ ys) x = cond (bytes_eq y x) 0 (suc (number ys x))

abbrev pub known : List (List ℕ) → List ℕ → Bool
known xs x = nat_lt (number xs x) (length xs)

abbrev pub place : List (List ℕ) → List ℕ → Option ℕ
place xs x = cond (known xs x) (Some (number xs x)) None

-- what adding x answers, where at most limit entries have a place
abbrev pub added : List (List ℕ) → ℕ → List ℕ → Option ℕ
added xs limit x = cond (known xs x) (Some (number xs x)) (cond (nat_lt (length xs) limit) (Some (number xs x)) None)

-- what adding x leaves
abbrev pub entered : {X : Type 0} → (X → List ℕ) → List X → ℕ → X → List X
entered shown xs limit x = cond (known (map shown xs) (shown x)) xs (cond (nat_lt (length xs) limit) (xs ++ x ∷ []) xs)
