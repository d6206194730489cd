-- Names that are put behind others: lengths, and numbers that stay. Assumes nothing.
use Rattle.std.proofs.Common.{◌≡◌, ℕ, zero, suc, ◌<◌, ◌≤◌, false, List, [], ◌∷◌, ◌++◌, length, get_or, sym, refl, ap, ◌∙◌, ⊎_elim, arith}
use Rattle.std.proofs.lemmas.Bool.{cases_Bool, cond-true, cond-false}
use Rattle.std.proofs.lemmas.Grind.{common_steps}
use Rattle.std.proofs.lemmas.List.{append-nil, append_assoc, length-append, length_push}
use Rattle.std.proofs.lemmas.Slice.Eq.{bytes_eq-Decides}
use Rattle.std.specs.Str.{bytes_eq}
use Rattle.distinct.specs.Numbering.{number, known}
use Rattle.tables.specs.Book.{keep, lacks, placed}
use Rattle.tables.specs.Entry.{Front}
use Rattle.tables.specs.Vocabulary.{with_name, with_names}

-- the number of a known name, as names are put behind
number_kept : (xs zs : List (List ℕ)) (w : List ℕ) → number xs w < length xs → number (xs ++ zs) w ≡ number xs w
number_kept [] zs w l = absurd (omega arith)
number_kept (x ∷ xs) zs w l = let k = number_kept xs zs w in grind (arith, common_steps)

pub number_below : (xs : List (List ℕ)) (w : List ℕ) → number xs w ≤ length xs
number_below [] w = omega arith
number_below (x ∷ xs) w = let h = number_below xs w in grind (arith, common_steps)

-- a name that was put behind has the next number
pub number_new : (xs : List (List ℕ)) (w : List ℕ) → known xs w ≡ false → number (xs ++ w ∷ []) w ≡ length xs
number_new [] w k = cond-true (bytes_eq w w) 0 1 ((bytes_eq-Decides w w).1 refl)
number_new (x ∷ xs) w k = let n = number_new xs w in grind (arith, common_steps)

-- the entry at a known name's number is that name
pub number_at : (xs : List (List ℕ)) (w : List ℕ) → number xs w < length xs → get_or xs (number xs w) [] ≡ w
number_at [] w l = absurd (omega arith)
number_at (x ∷ xs) w l =
    ⊎_elim
    (λ t. ap (λ n. get_or (x ∷ xs) n []) (cond-true (bytes_eq x w) 0 (suc (number xs w)) t) ∙ (bytes_eq-Decides x w).0 t)
    (λ f.
    let e = cond-false (bytes_eq x w) 0 (suc (number xs w)) f in
    ap (λ n. get_or (x ∷ xs) n []) e ∙ number_at xs w (omega arith))
    (cases_Bool (bytes_eq x w))

-- a name that is new stands nowhere
pub absent_at : (xs : List (List ℕ)) (x : List ℕ) (k : ℕ) → length xs ≤ number xs x → k < length xs → get_or xs k [] ≡ x → ⊥
absent_at [] x k l h e = omega arith
absent_at (y ∷ xs) x zero l h e = let t = (bytes_eq-Decides y x).1 e in grind (arith, common_steps)
absent_at (y ∷ xs) x (suc k) l h e = let n = absent_at xs x k in grind (arith, common_steps)

-- a name that was put in is known, under the number it had or got
pub with_known : (xs : List (List ℕ)) (w : List ℕ) → number (with_name xs w) w < length (with_name xs w)
with_known xs w = let l = length_push xs w in let n = number_new xs w in grind (arith, common_steps)

-- and names that are known keep theirs
pub front_number : (xs ys : List (List ℕ)) (w : List ℕ) → Front xs ys → number xs w < length xs → number ys w ≡ number xs w
front_number xs ys w (zs, e) l = ap (λ v. number v w) e ∙ number_kept xs zs w l

-- within a limit, keeping is putting behind

module _ (limit : ℕ) (xs : List (List ℕ)) (w : List ℕ) where
  pub keep_is : lacks limit xs w ≡ false → keep limit xs w xs w ≡ with_name xs w
  keep_is l = grind (arith, common_steps)

  pub with_fits : lacks limit xs w ≡ false → length xs ≤ limit → length (with_name xs w) ≤ limit
  with_fits l h = let p = length_push xs w in grind (arith, common_steps)

  pub fits_with : length (with_name xs w) ≤ limit → lacks limit xs w ≡ false
  fits_with h = let p = length_push xs w in grind (arith, common_steps)

  -- the number that a name gets is its number from then on
  pub label_is : lacks limit xs w ≡ false → placed limit xs w ≡ number (with_name xs w) w
  label_is l = let n = number_new xs w in let h = number_below xs w in grind (arith, common_steps)

pub with_front : (xs : List (List ℕ)) (w : List ℕ) → Front xs (with_name xs w)
with_front xs w =
    ⊎_elim
    (λ t. ([], cond-true (known xs w) xs (xs ++ w ∷ []) t ∙ sym (append-nil xs)))
    (λ f. (w ∷ [], cond-false (known xs w) xs (xs ++ w ∷ []) f))
    (cases_Bool (known xs w))

pub front_trans : {X : Type 0} (xs ys zs : List X) → Front xs ys → Front ys zs → Front xs zs
front_trans xs ys zs (p, e) (q, f) = (p ++ q, f ∙ ap (λ l. l ++ q) e ∙ append_assoc xs p q)

pub front_refl : {X : Type 0} (xs : List X) → Front xs xs
front_refl xs = ([], sym (append-nil xs))

pub front_long : {X : Type 0} (xs ys : List X) → Front xs ys → length xs ≤ length ys
front_long xs ys (p, e) = let l = ap length e ∙ length-append xs p in omega arith

pub all_front : (xs ws : List (List ℕ)) → Front xs (with_names xs ws)
all_front xs [] = front_refl xs
all_front xs (w ∷ ws) = front_trans xs (with_name xs w) (with_names (with_name xs w) ws) (with_front xs w) (all_front (with_name xs w) ws)

pub all_append : (xs ws vs : List (List ℕ)) → with_names xs (ws ++ vs) ≡ with_names (with_names xs ws) vs
all_append xs [] vs = refl
all_append xs (w ∷ ws) vs = all_append (with_name xs w) ws vs
