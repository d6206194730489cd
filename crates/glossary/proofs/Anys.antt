-- Tests of some element of a list. Assumes nothing.
use Rattle.std.proofs.Common.{◌≡◌, ℕ, Bool, true, ◌&&◌, ◌||◌, eqb, List, [], ◌∷◌, map, sym, refl, ap, ◌∙◌, ⊎_elim, arith}
use Rattle.std.proofs.lemmas.Bool.Decides.{same_from_decides}
use Rattle.std.proofs.lemmas.Bool.{or_cases, or_left, or_right, eqb-true, eq-eqb}
use Rattle.std.specs.List.{list_any}
use Rattle.glossary.specs.Any.{is_in}

-- two tests that pass alike are the same
pub same_test : (a b : Bool) → (a ≡ true → b ≡ true) → (b ≡ true → a ≡ true) → a ≡ b
same_test a b f g = same_from_decides a b (f, g) ((λ t. t), (λ t. t))

pub any_map : {X Y : Type 0} (p : Y → Bool) (f : X → Y) (xs : List X) → list_any p (map f xs) ≡ list_any (λ x. p (f x)) xs
any_map p f [] = refl
any_map p f (x ∷ xs) = ap (λ b. p (f x) || b) (any_map p f xs)

pub any_same : {X : Type 0} (p q : X → Bool) (xs : List X) → ((x : X) → p x ≡ q x) → list_any p xs ≡ list_any q xs
any_same p q xs e = λ i. list_any (λ x. e x i) xs

pub any_or : {X : Type 0} (p q : X → Bool) (xs : List X) → list_any (λ x. p x || q x) xs ≡ (list_any p xs || list_any q xs)
any_or p q [] = refl
any_or p q (x ∷ xs) = let h = any_or p q xs in grind arith

pub any_and : {X : Type 0} (p : X → Bool) (b : Bool) (xs : List X) → list_any (λ x. p x && b) xs ≡ (list_any p xs && b)
any_and p b [] = refl
any_and p b (x ∷ xs) = let h = any_and p b xs in grind arith

-- some element passes: which
pub any_some : (p : ℕ → Bool) (xs : List ℕ) → list_any p xs ≡ true → (x : ℕ) × (is_in x xs ≡ true) × (p x ≡ true)
any_some p [] t = absurd (cc)
any_some p (x ∷ xs) t =
    ⊎_elim
    (λ here. (x, or_left (eqb x x) _ (eq-eqb x x refl), here))
    (λ there. let y = any_some p xs there in (y.0, or_right (eqb x y.0) _ y.1, y.2))
    (or_cases (p x) (list_any p xs) t)

pub any_at : (p : ℕ → Bool) (xs : List ℕ) (x : ℕ) → is_in x xs ≡ true → p x ≡ true → list_any p xs ≡ true
any_at p [] x i t = i
any_at p (y ∷ ys) x i t =
    ⊎_elim
    (λ here. or_left (p y) _ (ap p (eqb-true y x here) ∙ t))
    (λ there. or_right (p y) _ (any_at p ys x there t))
    (or_cases (eqb y x) (is_in x ys) i)

-- tests that agree on the elements of the list
pub any_same_in : (p q : ℕ → Bool) (xs : List ℕ) → ((x : ℕ) → is_in x xs ≡ true → p x ≡ q x) → list_any p xs ≡ list_any q xs
any_same_in p q xs e =
    same_test (list_any p xs) (list_any q xs)
    (λ t. let y = any_some p xs t in any_at q xs y.0 y.1 (sym (e y.0 y.1) ∙ y.2))
    (λ t. let y = any_some q xs t in any_at p xs y.0 y.1 (e y.0 y.1 ∙ y.2))
