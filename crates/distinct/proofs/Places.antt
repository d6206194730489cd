-- What the number of an entry says of the places, and what keeps entries apart. Assumes nothing.
use Rattle.std.proofs.Common.{◌≡◌, ℕ, zero, suc, Bool, cond, ltb, ◌+◌, ◌<◌, ◌≤◌, true, false, List, [], ◌∷◌, ◌++◌, map, length, get_or, take, Some, None, Option, sym, refl, ap, ◌∙◌, subst, ⊎_elim, arith}
use Rattle.std.proofs.lemmas.Slice.Eq.{bytes_eq-Decides}
use Rattle.std.proofs.lemmas.List.{get_or-take, get_or_push, get_or_append_left, length-map, length_push, map_push, take-map, length-take}
use Rattle.std.proofs.lemmas.Bool.{cond-true, cond-false, lt-ltb, le-ltb, cases_Bool, cases_lt}
use Rattle.std.proofs.lemmas.Bool.Decides.{not_from_Decides, same_from_decides}
use Rattle.std.proofs.lemmas.List.Recursion.{is_position_or_len}
use Rattle.std.proofs.lemmas.List.Sums.{passes_at_first, fails_before_first}
use Rattle.std.specs.Bool.{Decides}
use Rattle.std.specs.List.{position, position_or_len}
use Rattle.std.specs.Str.{bytes_eq}
use Rattle.distinct.specs.Numbering.{Apart, Found, number, known, place, added}

-- x is shown at none of the first n places
abbrev pub Absent : List (List ℕ) → List ℕ → ℕ → Type 0
Absent xs x n = (k : ℕ) → k < n → get_or xs k [] ≡ x → ⊥

same_here : (y x : List ℕ) → y ≡ x → bytes_eq y x ≡ true
same_here y x e = (bytes_eq-Decides y x).1 e

differs : (y x : List ℕ) → (y ≡ x → ⊥) → bytes_eq y x ≡ false
differs y x n = ⊎_elim (λ t. absurd (n ((bytes_eq-Decides y x).0 t))) (λ f. f) (cases_Bool (bytes_eq y x))

pub number_at : (xs : List (List ℕ)) (x : List ℕ) (i : ℕ) → i < length xs → get_or xs i [] ≡ x → Absent xs x i → number xs x ≡ i
number_at [] x i l e a = absurd (omega arith)
number_at (y ∷ ys) x zero l e a = cond-true _ 0 _ (same_here y x e)
number_at (y ∷ ys) x (suc i) l e a =
    cond-false _ 0 _ (differs y x (a 0 (omega arith))) ∙ ap suc (number_at ys x i (omega arith) e (λ k h. a (suc k) (omega arith)))

pub number_new : (xs : List (List ℕ)) (x : List ℕ) → Absent xs x (length xs) → number xs x ≡ length xs
number_new [] x a = refl
number_new (y ∷ ys) x a =
    cond-false _ 0 _ (differs y x (a 0 (omega arith))) ∙ ap suc (number_new ys x (λ k h. a (suc k) (omega arith)))

-- the number of x is its first place
first : (xs : List (List ℕ)) (x : List ℕ) → number xs x ≡ position_or_len (λ y. bytes_eq y x) xs
first xs x = is_position_or_len (λ ys. number ys x) (λ y. bytes_eq y x) refl (λ y ys. ap (cond (bytes_eq y x) 0) (omega arith)) xs

shown_there : (xs : List (List ℕ)) (x : List ℕ) → number xs x < length xs → get_or xs (number xs x) [] ≡ x
shown_there xs x h =
    let p : List ℕ → Bool = λ y. bytes_eq y x in
    let n = first xs x in
    (bytes_eq-Decides _ x).0 (ap (λ i. p (get_or xs i [])) n ∙ passes_at_first p xs [] (omega (arith, n, h)))

absent_before : (xs : List (List ℕ)) (x : List ℕ) → Absent xs x (number xs x)
absent_before xs x k h =
    not_from_Decides _ (bytes_eq-Decides (get_or xs k []) x) (fails_before_first (λ y. bytes_eq y x) xs k [] (omega (arith, first xs x, h)))

-- what a look-up finds is what its place says
pub found_at : (xs : List (List ℕ)) (x : List ℕ) (r : Option ℕ) → r ≡ place xs x → Found xs x r
found_at xs x r e =
    subst (Found xs x) (sym e)
    (⊎_elim
    (λ h. subst (Found xs x) (sym (cond-true _ _ _ (lt-ltb _ _ h))) (h, shown_there xs x h))
    (λ h. subst (Found xs x) (sym (cond-false _ _ _ (le-ltb _ _ h))) (λ k l. absent_before xs x k (omega (arith, h, l))))
    (cases_lt (number xs x) (length xs)))

-- any answer that decides it is the one that compares the bytes
pub alike_is : (b : Bool) (y x : List ℕ) → Decides b (y ≡ x) → b ≡ bytes_eq y x
alike_is b y x d = sym (same_from_decides _ _ (bytes_eq-Decides y x) d)

module _ {X : Type 0} (f : X → List ℕ) where
  -- over entries that an equality tells apart by what they show
  pub first_equal : (eq : X → X → Bool) → ((y x : X) → Decides (eq y x) (f y ≡ f x)) → (x : X) (xs : List X) → number (map f xs) (f x) ≡ position_or_len (λ y. eq y x) xs
  first_equal eq tells x xs =
      is_position_or_len
      (λ ys. number (map f ys) (f x))
      (λ y. eq y x)
      refl
      (λ y ys. ap (λ b. cond b 0 (suc (number (map f ys) (f x)))) (same_from_decides _ _ (bytes_eq-Decides (f y) (f x)) (tells y x)) ∙ ap (cond (eq y x) 0) (omega arith))
      xs

  pub place_equal : (eq : X → X → Bool) → ((y x : X) → Decides (eq y x) (f y ≡ f x)) → (x : X) (xs : List X) → position (λ y. eq y x) xs ≡ place (map f xs) (f x)
  place_equal eq tells x xs =
      let n = first_equal eq tells x xs in
      let l = length-map xs f in
      ap (λ i. cond (ltb i (length xs)) (Some i) None) (sym n) ∙ ap (λ m. cond (ltb (number (map f xs) (f x)) m) (Some (number (map f xs) (f x))) None) (sym l)

  pub apart_take : (xs : List X) (n : ℕ) → Apart (map f xs) → Apart (map f (take n xs))
  apart_take xs n a i j ij l e =
      let long : length (map f (take n xs)) ≡ length (take n xs) = length-map (take n xs) f in
      let all : length (map f xs) ≡ length xs = length-map xs f in
      let cut = length-take n xs in
      let at : (k : ℕ) → k < n → get_or (map f (take n xs)) k [] ≡ get_or (map f xs) k [] = λ k h. ap (λ ys. get_or ys k []) (sym (take-map f n xs)) ∙ get_or-take n (map f xs) k [] h in
      a i j ij (omega arith) (sym (at i (omega arith)) ∙ e ∙ at j (omega arith))

  pub apart_push : (xs : List X) (x : X) → Absent (map f xs) (f x) (length (map f xs)) → Apart (map f xs) → Apart (map f (xs ++ x ∷ []))
  apart_push xs x n a i j ij l e =
      let pushed = map_push f xs x in
      let long : length (map f (xs ++ x ∷ [])) ≡ length (map f xs) + 1 = ap length pushed ∙ length_push (map f xs) (f x) in
      let left : (k : ℕ) → k < length (map f xs) → get_or (map f (xs ++ x ∷ [])) k [] ≡ get_or (map f xs) k [] = λ k h. ap (λ ys. get_or ys k []) pushed ∙ get_or_append_left (map f xs) (f x ∷ []) [] k h in
      ⊎_elim
      (λ h. a i j ij h (sym (left i (omega arith)) ∙ e ∙ left j h))
      (λ h. n i (omega arith) (sym (left i (omega arith)) ∙ e ∙ (ap (λ ys. get_or ys j []) pushed ∙ get_or_push (map f xs) (f x) [] j (omega arith))))
      (cases_lt j (length (map f xs)))

  new_known : (xs : List X) (x : X) → Found (map f xs) (f x) None → known (map f xs) (f x) ≡ false
  new_known xs x n = le-ltb _ _ (subst (λ k. length (map f xs) ≤ k) (sym (number_new (map f xs) (f x) n)) (omega arith))

  -- a new entry, where a place is free, has the next number
  pub added_new : (xs : List X) (limit : ℕ) (x : X) → Found (map f xs) (f x) None → length xs < limit → Some (length xs) ≡ added (map f xs) limit (f x)
  added_new xs limit x n free =
      let new = new_known xs x n in
      let long : length (map f xs) ≡ length xs = length-map xs f in
      sym (cond-false _ _ _ new ∙ cond-true _ _ _ (lt-ltb (length (map f xs)) limit (omega arith)) ∙ ap (λ (k : ℕ). Some k) (number_new (map f xs) (f x) n ∙ long))
