-- The numbers of names once all are put in, and the flags between them. Assumes nothing.
use Rattle.std.proofs.Common.{◌≡◌, ℕ, ◌<◌, ◌≤◌, Bool, true, false, ◌&&◌, ◌||◌, eqb, List, [], ◌∷◌, map, length, get_or, sym, refl, ap, ◌∙◌, ⊎_elim, arith}
use Rattle.std.proofs.lemmas.Slice.Eq.{bytes_eq-Decides}
use Rattle.std.proofs.lemmas.List.{get_or_append_left}
use Rattle.std.proofs.lemmas.Bool.{cases_lt, or_cases, eqb-true, eq-eqb, lt-ltb}
use Rattle.std.specs.Str.{bytes_eq}
use Rattle.distinct.specs.Numbering.{number, known}
use Rattle.glossary.proofs.Anys.{same_test, any_map}
use Rattle.std.specs.List.{list_any}
use Rattle.glossary.specs.Any.{is_in}
use Rattle.glossary.specs.Flags.{Bounded, reached}
use Rattle.tables.proofs.Numbers.{number_at, with_known, with_front, all_front, front_long, front_number, front_trans, absent_at}
use Rattle.tables.specs.Entry.{Front}
use Rattle.tables.specs.Vocabulary.{with_name, with_names}

-- what holds of each element
abbrev pub Each : {X : Type 0} → (X → Type 0) → List X → Type 0
Each P [] = Unit {0}
Each P (x ∷ xs) = P x × Each P xs

pub each_weaker : {X : Type 0} (P Q : X → Type 0) (xs : List X) → ((x : X) → P x → Q x) → Each P xs → Each Q xs
each_weaker P Q [] f e = tt
each_weaker P Q (x ∷ xs) f (e, es) = (f x e, each_weaker P Q xs f es)

pub any_each : {X : Type 0} (p q : X → Bool) (xs : List X) → Each (λ x. p x ≡ q x) xs → list_any p xs ≡ list_any q xs
any_each p q [] e = refl
any_each p q (x ∷ xs) (e, es) = ap (λ b. b || list_any p xs) e ∙ ap (λ b. q x || b) (any_each p q xs es)

-- w is one of the names
abbrev pub Has : List (List ℕ) → List ℕ → Type 0
Has xs w = number xs w < length xs

pub front_has : (xs ys : List (List ℕ)) (w : List ℕ) → Front xs ys → Has xs w → Has ys w
front_has xs ys w f h = let n = front_number xs ys w f h in let l = front_long xs ys f in omega arith

-- the name w, then the names ws: all are there

pub first_has : (xs : List (List ℕ)) (w : List ℕ) (ws : List (List ℕ)) → Has (with_names (with_name xs w) ws) w
first_has xs w ws = front_has (with_name xs w) (with_names (with_name xs w) ws) w (all_front (with_name xs w) ws) (with_known xs w)

pub all_has : (xs ws : List (List ℕ)) → Each (Has (with_names xs ws)) ws
all_has xs [] = tt
all_has xs (w ∷ ws) = (first_has xs w ws, all_has (with_name xs w) ws)

pub names_front : (xs : List (List ℕ)) (w : List ℕ) (ws : List (List ℕ)) → Front xs (with_names (with_name xs w) ws)
names_front xs w ws = front_trans xs (with_name xs w) (with_names (with_name xs w) ws) (with_front xs w) (all_front (with_name xs w) ws)

pub below_all : (ys ws : List (List ℕ)) → Each (Has ys) ws → (e : ℕ) → is_in e (map (number ys) ws) ≡ true → e < length ys
below_all ys [] h e i = absurd (cc)
below_all ys (w ∷ ws) (h, hs) e i =
    ⊎_elim
    (λ here. let same = eqb-true (number ys w) e here in omega arith)
    (below_all ys ws hs e)
    (or_cases (eqb (number ys w) e) (is_in e (map (number ys) ws)) i)

-- numbers tell names apart
pub same_number : (xs : List (List ℕ)) (v w : List ℕ) → Has xs v → Has xs w → eqb (number xs v) (number xs w) ≡ bytes_eq v w
same_number xs v w h k =
    same_test (eqb (number xs v) (number xs w)) (bytes_eq v w)
    (λ t. (bytes_eq-Decides v w).1 (sym (number_at xs v h) ∙ ap (λ n. get_or xs n []) (eqb-true (number xs v) (number xs w) t) ∙ number_at xs w k))
    (λ t. eq-eqb (number xs v) (number xs w) (ap (number xs) ((bytes_eq-Decides v w).0 t)))

front_at : (xs ys : List (List ℕ)) (k : ℕ) → Front xs ys → k < length xs → get_or ys k [] ≡ get_or xs k []
front_at xs ys k (zs, e) l = ap (λ z. get_or z k []) e ∙ get_or_append_left xs zs [] k l

-- a name that was new has a number past those that were there
pub number_late : (xs ys : List (List ℕ)) (w : List ℕ) → Front xs ys → Has ys w → length xs ≤ number xs w → length xs ≤ number ys w
number_late xs ys w f h l =
    ⊎_elim
    (λ early. absurd (absent_at xs w (number ys w) l early (sym (front_at xs ys (number ys w) f early) ∙ number_at ys w h)))
    (λ late. late)
    (cases_lt (number ys w) (length xs))

-- flags that no class past the first names has
module _ (R : ℕ → ℕ → Bool) (xs ys : List (List ℕ)) (front : Front xs ys) where
  pub final_flag : ((c d : ℕ) → length xs ≤ c → R c d ≡ false) → Bounded (length xs) R → (v w : List ℕ) → Has ys v → Has ys w → R (number ys v) (number ys w) ≡ R (number xs v) (number xs w)
  final_flag bare bounded v w h k =
      ⊎_elim
      (λ old.
      ⊎_elim
      (λ too. ap (λ m. R m (number ys w)) (front_number xs ys v front old) ∙ ap (R (number xs v)) (front_number xs ys w front too))
      (λ new. bounded (number ys v) (number ys w) (number_late xs ys w front k new) ∙ sym (bounded (number xs v) (number xs w) new))
      (cases_lt (number xs w) (length xs)))
      (λ new. bare (number ys v) (number ys w) (number_late xs ys v front h new) ∙ sym (bare (number xs v) (number xs w) new))
      (cases_lt (number xs v) (length xs))

  -- the circle that is sought on the names that were there is the one on the final numbers
  pub circle_same : ((c d : ℕ) → length xs ≤ c → R c d ≡ false) → Bounded (length xs) R → (w : List ℕ) (ws : List (List ℕ)) → Has ys w → Each (Has ys) ws → reached R (map (number ys) ws) (number ys w) ≡ list_any (λ v. bytes_eq v w || R (number xs v) (number xs w)) ws
  circle_same bare bounded w ws h hs =
      any_map (λ e. eqb e (number ys w) || R e (number ys w)) (number ys) ws
      ∙ any_each (λ v. eqb (number ys v) (number ys w) || R (number ys v) (number ys w)) (λ v. bytes_eq v w || R (number xs v) (number xs w)) ws
      (each_weaker (Has ys) (λ v. (eqb (number ys v) (number ys w) || R (number ys v) (number ys w)) ≡ (bytes_eq v w || R (number xs v) (number xs w))) ws (λ v k i. same_number ys v w k h i || final_flag bare bounded v w k h i) hs)

-- what the known names of a term reach, where all are known
pub reach_same : (R : ℕ → ℕ → Bool) (ys ws : List (List ℕ)) → Each (Has ys) ws → (f : ℕ) → list_any (λ v. known ys v && (eqb (number ys v) f || R (number ys v) f)) ws ≡ reached R (map (number ys) ws) f
reach_same R ys ws hs f =
    any_each (λ v. known ys v && (eqb (number ys v) f || R (number ys v) f)) (λ v. eqb (number ys v) f || R (number ys v) f) ws
    (each_weaker (Has ys) (λ v. (known ys v && (eqb (number ys v) f || R (number ys v) f)) ≡ (eqb (number ys v) f || R (number ys v) f)) ws (λ v h. ap (λ b. b && (eqb (number ys v) f || R (number ys v) f)) (lt-ltb (number ys v) (length ys) h)) hs)
    ∙ sym (any_map (λ e. eqb e f || R e f) (number ys) ws)
