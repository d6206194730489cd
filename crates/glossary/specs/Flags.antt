-- Flags R c d, kept beside the glosses, that say whether class c refers to d. Assumes nothing.
use Rattle.std.specs.Prelude.{◌≡◌, ℕ, zero, suc, ◌≤◌, Bool, false, cond, ◌&&◌, ◌||◌, List, ◌==◌}
use Rattle.std.specs.List.{list_any}

-- a class refers to what its gloss mentions, and to what that refers to
abbrev pub Follows : (ℕ → List ℕ) → (ℕ → ℕ → Bool) → Type 0
Follows D R = (c d : ℕ) → R c d ≡ list_any (λ e. (e == d) || R e d) (D c)

-- no class refers to itself
abbrev pub Loopless : (ℕ → ℕ → Bool) → Type 0
Loopless R = (c : ℕ) → R c c ≡ false

abbrev pub Bounded : ℕ → (ℕ → ℕ → Bool) → Type 0
Bounded n R = (c d : ℕ) → n ≤ d → R c d ≡ false

-- f is one of the classes ds, or one of them refers to it
abbrev pub reached : (ℕ → ℕ → Bool) → List ℕ → ℕ → Bool
reached R ds f = list_any (λ e. (e == f) || R e f) ds

-- the flags after class c was glossed by a term that mentions ds
abbrev pub grown : (ℕ → ℕ → Bool) → ℕ → List ℕ → ℕ → ℕ → Bool
grown R c ds e f = R e f || ((e == c || R e c) && reached R ds f)

-- how many numbers below n pass
abbrev pub weight : ℕ → (ℕ → Bool) → ℕ
weight zero f = 0
weight (suc n) f = cond (f n) (suc (weight n f)) (weight n f)
