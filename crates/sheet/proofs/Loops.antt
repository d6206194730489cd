-- What one class glossed anew makes of who refers to whom. Assumes nothing.
use Rattle.std.proofs.Common.{◌≡◌, ℕ, Bool, true, false, ◌||◌, eqb, ◌⊎◌, List, sym, refl, subst, inl, inr, ⊎_elim}
use Rattle.std.proofs.lemmas.Bool.{both_ways, cases_eq, or_cases, or_left, or_right, eq-eqb, eqb-true}
use Rattle.glossary.proofs.Anys.{any_at, any_some}
use Rattle.glossary.proofs.Circles.{refers_by, refers_complete, refers_sound}
use Rattle.glossary.specs.Any.{is_in}
use Rattle.glossary.specs.Flags.{Follows, Loopless, Bounded, reached}
use Rattle.glossary.specs.Refers.{Refers, direct, through}

pub refers_on : {D : ℕ → List ℕ} {a b : ℕ} (c : ℕ) → Refers D a b → Refers D b c → Refers D a c
refers_on c (direct i) q = through i q
refers_on c (through i r) q = through i (refers_on c r q)

-- D and D' differ at m alone: a way to m that first comes there at its end is one in both
pub towards : (D D' : ℕ → List ℕ) (m : ℕ) → ((e : ℕ) → (e ≡ m → ⊥) → D' e ≡ D e) → {a b : ℕ} → Refers D a b → b ≡ m → (a ≡ m) ⊎ Refers D' a m
towards D D' m other (direct {c = a} {d = b} i) e =
    ⊎_elim
    (λ same. inl same)
    (λ n. inr (direct (subst (λ xs. is_in m xs ≡ true) (sym (other a n)) (subst (λ k. is_in k (D a) ≡ true) e i))))
    (cases_eq a m)
towards D D' m other (through {c = a} {d = b} {e = x} i r) e =
    ⊎_elim
    (λ same. inl same)
    (λ n.
    ⊎_elim
    (λ there. inr (direct (subst (λ xs. is_in m xs ≡ true) (sym (other a n)) (subst (λ k. is_in k (D a) ≡ true) there i))))
    (λ on. inr (through (subst (λ xs. is_in x xs ≡ true) (sym (other a n)) i) on))
    (towards D D' m other r e))
    (cases_eq a m)

-- class m is glossed by what mentions ds, whatever it was glossed by
module _ (D D' : ℕ → List ℕ) (R : ℕ → ℕ → Bool) (follows : Follows D R) (loopless : Loopless R) (m : ℕ) (ds : List ℕ) (own : D' m ≡ ds) (other : (e : ℕ) → (e ≡ m → ⊥) → D' e ≡ D e) where
  module _ (n : ℕ) (bounded : Bounded n R) where
    pub told_loop : reached R ds m ≡ true → Refers D' m m
    told_loop t =
        let x = any_some (λ e. eqb e m || R e m) ds t in
        let d = x.0 in
        let edge : is_in d (D' m) ≡ true = subst (λ xs. is_in d xs ≡ true) (sym own) x.1 in
        let here : d ≡ m → Refers D' m m = λ same. direct (subst (λ k. is_in k (D' m) ≡ true) same edge) in
        ⊎_elim
        (λ same. here (eqb-true d m same))
        (λ on. ⊎_elim here (λ far. through edge far) (towards D D' m other (refers_sound D R follows n loopless bounded d m on) refl))
        (or_cases (eqb d m) (R d m) x.2)

  module _ (clear : reached R ds m ≡ false) where
    missed : (d : ℕ) → is_in d ds ≡ true → (d ≡ m) ⊎ (R d m ≡ true) → ⊥
    missed d i w =
        both_ways (reached R ds m) clear
        (any_at (λ e. eqb e m || R e m) ds d i (⊎_elim (λ same. or_left (eqb d m) (R d m) (eq-eqb d m same)) (λ on. or_right (eqb d m) (R d m) on) w))

    at_own : {a : ℕ} (x : ℕ) → a ≡ m → is_in x (D' a) ≡ true → is_in x ds ≡ true
    at_own x e i = subst (λ xs. is_in x xs ≡ true) own (subst (λ k. is_in x (D' k) ≡ true) e i)

    not_here : {a b : ℕ} → Refers D' a b → a ≡ m → b ≡ m → ⊥
    not_here (direct {c = a} {d = b} i) p q = missed b (at_own b p i) (inl q)
    not_here (through {c = a} {d = b} {e = x} i r) p q =
        missed x (at_own x p i)
        (⊎_elim (λ same. inl same) (λ on. inr (refers_complete D R follows on)) (towards D' D m (λ e n. sym (other e n)) r q))

    -- a way is an old one, or goes through m
    ways : {a b : ℕ} → Refers D' a b → (R a b ≡ true) ⊎ (((a ≡ m) ⊎ Refers D' a m) × Refers D' m b)
    ways (direct {c = a} {d = b} i) =
        ⊎_elim
        (λ same. inr (inl same, subst (λ k. Refers D' k b) same (direct i)))
        (λ n. inl (refers_by D R follows a b b (subst (λ xs. is_in b xs ≡ true) (other a n) i) (or_left (eqb b b) (R b b) (eq-eqb b b refl))))
        (cases_eq a m)
    ways (through {c = a} {d = b} {e = x} i r) =
        ⊎_elim
        (λ same. inr (inl same, subst (λ k. Refers D' k b) same (through i r)))
        (λ n.
        ⊎_elim
        (λ old. inl (refers_by D R follows a b x (subst (λ xs. is_in x xs ≡ true) (other a n) i) (or_right (eqb x b) (R x b) old)))
        (λ by. inr (inr (⊎_elim (λ there. direct (subst (λ k. is_in k (D' a) ≡ true) there i)) (λ on. through i on) by.0), by.1))
        (ways r))
        (cases_eq a m)

    pub no_loop : (e : ℕ) → Refers D' e e → ⊥
    no_loop e r =
        ⊎_elim
        (both_ways (R e e) (loopless e))
        (λ by. not_here (⊎_elim (λ same. subst (λ k. Refers D' m k) same by.1) (λ on. refers_on m by.1 on) by.0) refl refl)
        (ways r)
