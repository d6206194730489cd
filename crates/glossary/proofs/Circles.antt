-- Flags that follow the glosses, with none for a class and itself, say exactly which class refers to which. Assumes
-- nothing.
use Rattle.std.proofs.Common.{◌≡◌, ℕ, zero, suc, ◌<◌, ◌≤◌, Bool, true, false, cond, ◌&&◌, ◌||◌, eqb, List, [], sym, refl, ap, ◌∙◌, subst, ⊎_elim, arith}
use Rattle.std.proofs.lemmas.Bool.{false_from_ne_true, cases_Bool, cases_eq, cases_lt, both_ways, and_parts, or_cases, or_from, and_right, or_left, or_right, eqb-true, eq-eqb, cond-true, cond-false, cond_both}
use Rattle.glossary.proofs.Anys.{any_some, any_at, any_same, any_same_in, any_or, any_and}
use Rattle.std.proofs.Math.Bool.{or_assoc}
use Rattle.std.specs.List.{list_any}
use Rattle.glossary.specs.Any.{is_in}
use Rattle.glossary.specs.Flags.{Follows, Loopless, Bounded, reached, grown, weight}
use Rattle.glossary.specs.Refers.{Refers, direct, through, refers_within}

-- weights

pub weight_most : (n : ℕ) (p : ℕ → Bool) → weight n p ≤ n
weight_most zero p = omega arith
weight_most (suc n) p =
    let h = weight_most n p in
    cond_both (p n) (suc (weight n p)) (weight n p) (λ k. k ≤ suc n) (λ t. omega arith) (λ f. omega arith)

weight_or : (a b : Bool) (k m : ℕ) → (a ≡ true → b ≡ true) → k ≤ m → cond a (suc k) k ≤ cond b (suc m) m
weight_or a b k m f h = grind arith

weight_new : (a b : Bool) (k m : ℕ) → a ≡ false → b ≡ true → k ≤ m → cond a (suc k) k < cond b (suc m) m
weight_new a b k m f t h = grind arith

weight_old : (a b : Bool) (k m : ℕ) → (a ≡ true → b ≡ true) → k < m → cond a (suc k) k < cond b (suc m) m
weight_old a b k m f h = grind arith

weight_more : (n : ℕ) (p q : ℕ → Bool) → ((k : ℕ) → p k ≡ true → q k ≡ true) → weight n p ≤ weight n q
weight_more zero p q f = omega arith
weight_more (suc n) p q f = weight_or (p n) (q n) (weight n p) (weight n q) (f n) (weight_more n p q f)

-- one more number passes
pub weight_less : (n : ℕ) (p q : ℕ → Bool) (k : ℕ) → ((k : ℕ) → p k ≡ true → q k ≡ true) → k < n → p k ≡ false → q k ≡ true → weight n p < weight n q
weight_less zero p q k f l a b = absurd (omega arith)
weight_less (suc n) p q k f l a b =
    ⊎_elim
    (λ e. weight_new (p n) (q n) (weight n p) (weight n q) (ap p (sym e) ∙ a) (ap q (sym e) ∙ b) (weight_more n p q f))
    (λ d. weight_old (p n) (q n) (weight n p) (weight n q) (f n) (weight_less n p q k f (omega arith) a b))
    (cases_eq k n)

-- nothing passes where the weight is 0
weight_zero : (n : ℕ) (p : ℕ → Bool) (k : ℕ) → k < n → weight n p ≤ 0 → p k ≡ true → ⊥
weight_zero n p k l w t =
    let h = weight_less n (λ _. false) p k (λ j f. absurd (both_ways false refl f)) l refl t in omega arith

pub bounded_more : (m n : ℕ) (R : ℕ → ℕ → Bool) → Bounded n R → n ≤ m → Bounded m R
bounded_more m n R b l c d h = b c d (omega arith)

pub follows_same : (D D' : ℕ → List ℕ) (R R' : ℕ → ℕ → Bool) → Follows D R → ((c : ℕ) → D' c ≡ D c) → ((c d : ℕ) → R' c d ≡ R c d) → Follows D' R'
follows_same D D' R R' f e r c d =
    r c d ∙ f c d
    ∙ any_same (λ e. eqb e d || R e d) (λ e. eqb e d || R' e d) (D c) (λ x. ap (λ b. eqb x d || b) (sym (r x d)))
    ∙ ap (list_any (λ e. eqb e d || R' e d)) (sym (e c))

own : (x b y r u : Bool) → x ≡ false → b ≡ true → u ≡ false → (x || ((b || y) && r)) ≡ (r || (u && r))
own x b y r u p q s = grind arith

module _ (D : ℕ → List ℕ) (R : ℕ → ℕ → Bool) (follows : Follows D R) where
  -- what a class mentions, it refers to, with all that this refers to
  pub refers_by : (c d e : ℕ) → is_in e (D c) ≡ true → (eqb e d || R e d) ≡ true → R c d ≡ true
  refers_by c d e i t = follows c d ∙ any_at (λ x. eqb x d || R x d) (D c) e i t

  pub refers_complete : {c d : ℕ} → Refers D c d → R c d ≡ true
  refers_complete (direct {c} {d} i) = refers_by c d d i (or_left (eqb d d) (R d d) (eq-eqb d d refl))
  refers_complete (through {c} {d} {e} i r) = refers_by c d e i (or_right (eqb e d) (R e d) (refers_complete r))

  refers_then : {a b : ℕ} (c : ℕ) → Refers D a b → R b c ≡ true → R a c ≡ true
  refers_then c (direct {c = a} {d = b} i) t = refers_by a c b i (or_right (eqb b c) (R b c) t)
  refers_then c (through {c = a} {e} i r) t = refers_by a c e i (or_right (eqb e c) (R e c) (refers_then c r t))

  module _ (n : ℕ) (loopless : Loopless R) (bounded : Bounded n R) where
    below : (c d : ℕ) → R c d ≡ true → d < n
    below c d t = ⊎_elim (λ l. l) (λ h. absurd (both_ways (R c d) (bounded c d h) t)) (cases_lt d n)

    pub weight_falls : (c e : ℕ) → is_in e (D c) ≡ true → weight n (R e) < weight n (R c)
    weight_falls c e i =
        let here = refers_by c e e i (or_left (eqb e e) (R e e) (eq-eqb e e refl)) in
        weight_less n (R e) (R c) e (λ k t. refers_by c k e i (or_right (eqb e k) (R e k) t)) (below c e here) (loopless e) here

    sound_within : (gas c d : ℕ) → weight n (R c) < gas → R c d ≡ true → Refers D c d
    sound_within zero c d l t = absurd (omega arith)
    sound_within (suc gas) c d l t =
        let x = any_some (λ e. eqb e d || R e d) (D c) (sym (follows c d) ∙ t) in
        let e = x.0 in
        ⊎_elim
        (λ same. direct (subst (λ k. is_in k (D c) ≡ true) (eqb-true e d same) x.1))
        (λ on. let w = weight_falls c e x.1 in through x.1 (sound_within gas e d (omega arith) on))
        (or_cases (eqb e d) (R e d) x.2)

    pub refers_sound : (c d : ℕ) → R c d ≡ true → Refers D c d
    refers_sound c d t = sound_within (suc (weight n (R c))) c d (omega arith) t

    pub refers_trans : (a b c : ℕ) → R a b ≡ true → R b c ≡ true → R a c ≡ true
    refers_trans a b c s t = refers_then c (refers_sound a b s) t

    -- as many glosses as the weight are enough
    pub within_weight : (gas c d : ℕ) → weight n (R c) ≤ gas → refers_within gas D c d ≡ R c d
    within_weight zero c d l = sym (false_from_ne_true (R c d) (λ t. weight_zero n (R c) d (below c d t) l t))
    within_weight (suc gas) c d l =
        any_same_in (λ e. eqb e d || refers_within gas D e d) (λ e. eqb e d || R e d) (D c)
        (λ e i. let w = weight_falls c e i in ap (λ b. eqb e d || b) (within_weight gas e d (omega arith)))
        ∙ sym (follows c d)

    pub within_is : (gas c d : ℕ) → n ≤ gas → refers_within gas D c d ≡ R c d
    within_is gas c d l = let w = weight_most n (R c) in within_weight gas c d (omega arith)

    -- class c had no gloss, and gets one that mentions ds, none of which is c or refers to it
    module _ (c : ℕ) (ds : List ℕ) (none : D c ≡ []) (clear : reached R ds c ≡ false) where
      unglossed : (f : ℕ) → R c f ≡ false
      unglossed f = follows c f ∙ ap (list_any (λ e. eqb e f || R e f)) none

      -- what a list of classes reaches by the flags that have grown
      split : (es : List ℕ) (f : ℕ) → reached (grown R c ds) es f ≡ (reached R es f || (reached R es c && reached R ds f))
      split es f =
          any_same _ _ es (λ d. sym (or_assoc (eqb d f) (R d f) ((eqb d c || R d c) && reached R ds f)))
          ∙ any_or (λ d. eqb d f || R d f) (λ d. (eqb d c || R d c) && reached R ds f) es
          ∙ ap (λ b. reached R es f || b) (any_and (λ d. eqb d c || R d c) (reached R ds f) es)

      pub grown_follows : Follows (λ e. cond (eqb e c) ds (D e)) (grown R c ds)
      grown_follows e f =
          ⊎_elim
          (λ t. own (R e f) (eqb e c) (R e c) (reached R ds f) (reached R ds c) (ap (λ k. R k f) (eqb-true e c t) ∙ unglossed f) t clear ∙ sym (ap (λ es. reached (grown R c ds) es f) (cond-true (eqb e c) ds (D e) t) ∙ split ds f))
          (λ n. ap (λ b. R e f || ((b || R e c) && reached R ds f)) n ∙ (λ i. follows e f i || (follows e c i && reached R ds f)) ∙ sym (ap (λ es. reached (grown R c ds) es f) (cond-false (eqb e c) ds (D e) n) ∙ split (D e) f))
          (cases_Bool (eqb e c))

      -- what reaches e reaches c, where e refers to c
      onward : (e : ℕ) → R e c ≡ true → reached R ds e ≡ true → reached R ds c ≡ true
      onward e on t =
          let (d, i, h) = any_some (λ d. eqb d e || R d e) ds t in
          any_at (λ d. eqb d c || R d c) ds d i
          (or_right (eqb d c) (R d c) (⊎_elim (λ same. ap (λ k. R k c) (eqb-true d e same) ∙ on) (λ far. refers_trans d e c far on) (or_cases (eqb d e) (R d e) h)))

      pub grown_loopless : Loopless (grown R c ds)
      grown_loopless e =
          or_from (R e e) _ (loopless e)
          (false_from_ne_true _ (λ t.
          let p = and_parts (eqb e c || R e c) (reached R ds e) t in
          both_ways (reached R ds c) clear
          (⊎_elim (λ same. subst (λ k. reached R ds k ≡ true) (eqb-true e c same) p.1) (λ on. onward e on p.1) (or_cases (eqb e c) (R e c) p.0))))

      pub grown_bounded : ((e : ℕ) → is_in e ds ≡ true → e < n) → Bounded n (grown R c ds)
      grown_bounded low e f h =
          or_from (R e f) _ (bounded e f h)
          (and_right (eqb e c || R e c) (reached R ds f) (false_from_ne_true (reached R ds f) (λ t. let x = any_some (λ d. eqb d f || R d f) ds t in let d = x.0 in ⊎_elim (λ same. let k = low d x.1 in let s : d ≡ f = eqb-true d f same in absurd (omega arith)) (both_ways (R d f) (bounded d f h)) (or_cases (eqb d f) (R d f) x.2))))
