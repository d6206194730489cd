-- What holds of entries still holds with one put behind them: they are apart, and they are names. Assumes nothing.
use Rattle.std.proofs.Common.{◌≡◌, ℕ, ◌<◌, true, List, [], ◌∷◌, ◌++◌, length, get_or, sym, ap, ◌∙◌, subst, ⊎_elim, arith}
use Rattle.std.proofs.lemmas.List.{get_or_append_left, get_or_push, length_push}
use Rattle.std.proofs.lemmas.Bool.{cases_lt, cond_both, ltb-false, lt-ltb}
use Rattle.distinct.specs.Numbering.{Apart, number, known}
use Rattle.names.specs.Name.{legal}
use Rattle.tables.proofs.Numbers.{absent_at, front_refl, with_front}
use Rattle.tables.proofs.Spelling.{Names}
use Rattle.tables.specs.Entry.{Front}
use Rattle.tables.specs.Vocabulary.{with_name}

-- what stands somewhere is known
pub known_from : (xs : List (List ℕ)) (x : List ℕ) (k : ℕ) → k < length xs → get_or xs k [] ≡ x → known xs x ≡ true
known_from xs x k l e =
    ⊎_elim
    (λ h. lt-ltb (number xs x) (length xs) h)
    (λ h. absurd (absent_at xs x k h l e))
    (cases_lt (number xs x) (length xs))

apart_one : (xs : List (List ℕ)) (w : List ℕ) → Apart xs → ((k : ℕ) → k < length xs → get_or xs k [] ≡ w → ⊥) → Apart (xs ++ w ∷ [])
apart_one xs w a n i j ij l e =
    let long = length_push xs w in
    let left : get_or (xs ++ w ∷ []) i [] ≡ get_or xs i [] = get_or_append_left xs (w ∷ []) [] i (omega arith) in
    ⊎_elim
    (λ h. a i j ij h (sym left ∙ e ∙ get_or_append_left xs (w ∷ []) [] j h))
    (λ h. n i (omega arith) (sym left ∙ e ∙ get_or_push xs w [] j (omega arith)))
    (cases_lt j (length xs))

pub apart_with : (xs : List (List ℕ)) (w : List ℕ) → Apart xs → Apart (with_name xs w)
apart_with xs w a = cond_both (known xs w) xs (xs ++ w ∷ []) Apart (λ t. a) (λ f. apart_one xs w a (λ k h e. absent_at xs w k (ltb-false (number xs w) (length xs) f) h e))

names_one : (xs : List (List ℕ)) (w : List ℕ) → legal w ≡ true → Names xs → Names (xs ++ w ∷ [])
names_one xs w l n k h =
    let long = length_push xs w in
    ⊎_elim
    (λ lt. ap legal (get_or_append_left xs (w ∷ []) [] k lt) ∙ n k lt)
    (λ ge. ap legal (get_or_push xs w [] k (omega arith)) ∙ l)
    (cases_lt k (length xs))

names_with : (xs : List (List ℕ)) (w : List ℕ) → legal w ≡ true → Names xs → Names (with_name xs w)
names_with xs w l n = cond_both (known xs w) xs (xs ++ w ∷ []) Names (λ t. n) (λ f. names_one xs w l n)

-- the names ys, names and apart, have xs in front
pub record Follow (xs ys : List (List ℕ)) : Type 0 where
  pub front : Front xs ys
  pub apart : Apart ys
  pub names : Names ys

pub follow_same : (xs ys : List (List ℕ)) → Apart xs → Names xs → ys ≡ xs → Follow xs ys
follow_same xs ys a n e = subst (Follow xs) (sym e) (record { front = front_refl xs; apart = a; names = n })

pub follow_with : (xs ys : List (List ℕ)) (w : List ℕ) → legal w ≡ true → Apart xs → Names xs → ys ≡ with_name xs w → Follow xs ys
follow_with xs ys w l a n e = subst (Follow xs) (sym e) (record { front = with_front xs w; apart = apart_with xs w a; names = names_with xs w l n })
