-- What the scan of a word for a name finds. Assumes nothing.
use Rattle.std.proofs.Common.{◌≡◌, ℕ, zero, suc, ◌+◌, ◌-◌, ◌<◌, ◌≤◌, true, false, not, ◌&&◌, eqb, ltb, ◌⊎◌, List, [], ◌∷◌, ◌++◌, length, get_or, take, is_some, Some, None, Option, sym, refl, ap, ◌∙◌, subst, inl, inr, ⊎_elim, add-zero, zero-add, arith}
use Rattle.std.proofs.lemmas.List.{take_all, get_or-take, get_or_append_left, length-append, length-take-le}
use Rattle.std.proofs.lemmas.Bool.{cond-true, cond-false, cases_Bool, cases_eq, eqb-true, eqb-false, eq-eqb, ne_eqb, and_parts, ltb-true, lt-ltb, or_left, both_ways}
use Rattle.names.specs.Name.{opens, follows, fits, flaw, legal, Legal, FirstFlaw}

-- a byte that fits is one that follows, at a place below 16
fits_says : (i b : ℕ) → fits i b ≡ true → (i < 16) × (follows b ≡ true) × (i ≡ 0 → opens b ≡ true)
fits_says i b f =
    ⊎_elim
    (λ z. let o : opens b ≡ true = sym (cond-true _ _ _ (eq-eqb i 0 z)) ∙ f in (omega arith, or_left (opens b) _ o, λ _. o))
    (λ nz. let p = and_parts (ltb i 16) (follows b) (sym (cond-false _ _ _ (ne_eqb i 0 nz)) ∙ f) in (ltb-true i 16 p.0, p.1, λ z. absurd (nz z)))
    (cases_eq i 0)

says_fits : (i b : ℕ) → i < 16 → follows b ≡ true → (i ≡ 0 → opens b ≡ true) → fits i b ≡ true
says_fits i b l f o =
    ⊎_elim
    (λ z. cond-true _ _ _ (eq-eqb i 0 z) ∙ o z)
    (λ nz. cond-false _ _ _ (ne_eqb i 0 nz) ∙ (ap (λ t. t && follows b) (lt-ltb i 16 l) ∙ f))
    (cases_eq i 0)

-- each of the first n bytes of bs fits, the first of them at place i
abbrev Fit : ℕ → List ℕ → ℕ → Type 0
Fit i bs n = (k : ℕ) → k < n → fits (i + k) (get_or bs k 0) ≡ true

-- what the scan says
abbrev Scan : ℕ → List ℕ → Option ℕ → Type 0
Scan i bs None = Fit i bs (length bs) × (i ≡ 0 → 0 < length bs)
Scan i bs (Some p) = (q : ℕ) × (p ≡ i + q) × Fit i bs q × (((q < length bs) × (fits (i + q) (get_or bs q 0) ≡ false)) ⊎ ((length bs ≡ 0) × (i ≡ 0) × (q ≡ 0)))

fit_more : (i b : ℕ) (bs : List ℕ) (n : ℕ) → fits i b ≡ true → Fit (suc i) bs n → Fit i (b ∷ bs) (suc n)
fit_more i b bs n f g zero h = subst (λ k. fits k b ≡ true) (sym (add-zero i)) f
fit_more i b bs n f g (suc k) h =
    let same : suc i + k ≡ i + suc k = omega arith in
    subst (λ m. fits m (get_or bs k 0) ≡ true) same (g k (omega arith))

step : (i b : ℕ) (bs : List ℕ) → fits i b ≡ true → (r : Option ℕ) → Scan (suc i) bs r → Scan i (b ∷ bs) r
step i b bs f None (g, h) = (fit_more i b bs (length bs) f g, λ z. omega arith)
step i b bs f (Some p) (q, e, g, inl (l, n)) =
    let same : suc i + q ≡ i + suc q = omega arith in
    (suc q, e ∙ same, fit_more i b bs q f g, inl (omega arith, subst (λ m. fits m (get_or bs q 0) ≡ false) same n))
step i b bs f (Some p) (q, e, g, inr (z, s, o)) = absurd (omega arith)

scan : (i : ℕ) (bs : List ℕ) → Scan i bs (flaw i bs)
scan i [] =
    ⊎_elim
    (λ t. subst (Scan i []) (sym (cond-true _ _ _ t)) (let z = eqb-true i 0 t in (0, omega arith, λ k h. absurd (omega arith), inr (refl, z, refl))))
    (λ f. subst (Scan i []) (sym (cond-false _ _ _ f)) (λ k h. absurd (omega arith), λ z. absurd (eqb-false i 0 f z)))
    (cases_Bool (eqb i 0))
scan i (b ∷ bs) =
    ⊎_elim
    (λ t. subst (Scan i (b ∷ bs)) (sym (cond-true _ _ _ t)) (step i b bs t (flaw (suc i) bs) (scan (suc i) bs)))
    (λ f. subst (Scan i (b ∷ bs)) (sym (cond-false _ _ _ f)) (0, sym (add-zero i), λ k h. absurd (omega arith), inl (omega arith, subst (λ m. fits m b ≡ false) (sym (add-zero i)) f)))
    (cases_Bool (fits i b))

-- the first q bytes, all of which fit, are a name
front_legal : (w : List ℕ) (q : ℕ) → 0 < q → q ≤ length w → Fit 0 w q → Legal (take q w)
front_legal w q some l fit =
    let long = length-take-le q w l in
    let last = fits_says (q - 1) (get_or w (q - 1) 0) (subst (λ m. fits m (get_or w (q - 1) 0) ≡ true) (zero-add (q - 1)) (fit (q - 1) (omega arith))) in
    record {
      some = omega arith;
      short = omega (arith, last.0);
      first = subst (λ b. opens b ≡ true) (sym (get_or-take q w 0 0 some)) ((fits_says 0 (get_or w 0 0) (fit 0 some)).2 refl);
      rest = λ k h. subst (λ b. follows b ≡ true) (sym (get_or-take q w k 0 (omega arith))) (fits_says (0 + k) (get_or w k 0) (fit k (omega arith))).1;
    }

found : (w : List ℕ) (r : Option ℕ) → flaw 0 w ≡ r → Scan 0 w r
found w r e = subst (Scan 0 w) e (scan 0 w)

pub legal_when : (w : List ℕ) → flaw 0 w ≡ None → Legal w
legal_when w e =
    let s = found w None e in
    subst Legal (take_all (length w) w (omega arith)) (front_legal w (length w) (s.1 refl) (omega arith) s.0)

-- a name's byte at k fits there
legal_fits : (w : List ℕ) → Legal w → (k : ℕ) → k < length w → fits (0 + k) (get_or w k 0) ≡ true
legal_fits w n k h =
    says_fits (0 + k) (get_or w k 0) (omega (arith, n.short)) (n.rest k h) (λ z. let e : 0 ≡ k = omega arith in subst (λ m. opens (get_or w m 0) ≡ true) e n.first)

no_flaw : (w : List ℕ) → Legal w → (r : Option ℕ) → Scan 0 w r → r ≡ None
no_flaw w n None s = refl
no_flaw w n (Some p) (q, e, g, inl (l, f)) = absurd (both_ways _ f (legal_fits w n q l))
no_flaw w n (Some p) (q, e, g, inr (z, s, o)) = absurd (omega (arith, n.some))

pub when_legal : (w : List ℕ) → Legal w → flaw 0 w ≡ None
when_legal w n = no_flaw w n (flaw 0 w) (scan 0 w)

pub legal_is : (w : List ℕ) → flaw 0 w ≡ None → legal w ≡ true
legal_is w e = ap (λ r. not (is_some r)) e

is_none : (r : Option ℕ) → not (is_some r) ≡ true → r ≡ None
is_none None e = refl
is_none (Some p) e = let z : ◌≡◌ {A = ℕ} 0 1 = cc in absurd (omega arith)

pub is_legal : (w : List ℕ) → legal w ≡ true → flaw 0 w ≡ None
is_legal w e = is_none (flaw 0 w) e

-- no name begins with the first suc q bytes, where the byte at q does not fit
stops_at : (w : List ℕ) (q : ℕ) → q < length w → fits (0 + q) (get_or w q 0) ≡ false → (u : List ℕ) → Legal (take (suc q) w ++ u) → ⊥
stops_at w q l f u n =
    let long = length-append (take (suc q) w) u in
    let cut = length-take-le (suc q) w (omega arith) in
    let same : get_or (take (suc q) w ++ u) q 0 ≡ get_or w q 0 = get_or_append_left (take (suc q) w) u 0 q (omega arith) ∙ get_or-take (suc q) w q 0 (omega arith) in
    both_ways _ f (subst (λ b. fits (0 + q) b ≡ true) same (legal_fits (take (suc q) w ++ u) n q (omega arith)))

pub first_flaw_says : (w : List ℕ) (p : ℕ) → flaw 0 w ≡ Some p → FirstFlaw w p
first_flaw_says w p e = says (found w (Some p) e)
  where
    says : Scan 0 w (Some p) → FirstFlaw w p
    says (q, s, g, inl (l, f)) =
        let same : p ≡ q = omega arith in
        record {
          exact = e;
          before = ⊎_elim (λ z. inl (omega arith)) (λ nz. inr (subst (λ m. Legal (take m w)) (sym same) (front_legal w q (omega arith) (omega arith) g))) (cases_eq q 0);
          stops = λ h u n. stops_at w q l f u (subst (λ m. Legal (take (suc m) w ++ u)) same n);
          empty = λ h. absurd (omega arith);
        }
    says (q, s, g, inr (z, i, o)) =
        record {
          exact = e;
          before = inl (omega arith);
          stops = λ h. absurd (omega arith);
          empty = λ h. z;
        }

pub flaw_within : (w : List ℕ) (p : ℕ) → FirstFlaw w p → p ≤ length w
flaw_within w p f = within (found w (Some p) f.exact)
  where
    within : Scan 0 w (Some p) → p ≤ length w
    within (q, s, g, inl (l, n)) = omega arith
    within (q, s, g, inr (z, i, o)) = omega arith
