-- A fault of a name, of depth, or of a word left over stands whatever follows its place. Assumes nothing.
use Rattle.std.proofs.Common.{◌≡◌, ℕ, zero, suc, ◌+◌, ◌-◌, ◌<◌, ◌≤◌, false, eqb, ◌⊎◌, List, [], ◌∷◌, ◌++◌, length, take, drop, Some, None, Ok, Err, Option, Result, sym, refl, ap, ◌∙◌, subst, inl, inr, ⊎_elim, append_assoc, arith, take-append-drop}
use Rattle.std.proofs.Math.Seq.{take-append-add, drop-append-add}
use Rattle.std.proofs.lemmas.List.{length-append, length-drop, length-take-le}
use Rattle.std.proofs.lemmas.Bool.{cond-true, cond-false, cases_Bool, eqb-true}
use Rattle.std.proofs.lemmas.Bool.Decides.{nat_tests}
use Rattle.names.specs.Name.{flaw}
use Rattle.names.specs.Refusal.{place_of}
use Rattle.names.specs.declared.refusals.Refusal.{Refusal}
use Rattle.names.specs.declared.refusals.Refusal.TheVariants.{BadName, LeftOver, StraySpace, TooDeep}
use Rattle.terms.specs.Forms.{joins, quantifies, modalizes}
use Rattle.terms.specs.Parse.{after, Parsed, gap, named, name_at, only_class, part, one_part, two_parts, linked, operated, parts, parse, place, ended, reading}
use Rattle.terms.specs.Term.{Spelled, class, neg}
use Rattle.terms.specs.Told.{Firm}
use Rattle.terms.specs.Word.{Word, operator, reader, name, Sign, bare, modal, letter, sign, completed, word_length, first_word, after_word, meant}
use Rattle.terms.specs.declared.words.Operator.{Operator}
use Rattle.terms.specs.declared.words.Operator.TheVariants.{Top, Bottom, Not, Join as Joining, Quantifier as Quantifying}
use Rattle.terms.proofs.Language.{Solid, first_is, after_is}

-- words across the seam between y and what follows it

-- y has a space, or none
data Split : List ℕ → Type 0 where
  spaced : (w y : List ℕ) → Solid w → Split (w ++ 32 ∷ y)
  solid : {y : List ℕ} → Solid y → Split y

split : (y : List ℕ) → Split y
split [] = solid tt
split (b ∷ y) =
    ⊎_elim
    (λ t. subst (λ c. Split (c ∷ y)) (sym (eqb-true b 32 t)) (spaced [] y tt))
    (λ f. more b y f (split y))
    (cases_Bool (eqb b 32))
  where
    more : (b : ℕ) (y : List ℕ) → eqb b 32 ≡ false → Split y → Split (b ∷ y)
    more b _ f (spaced w y s) = spaced (b ∷ w) y (f, s)
    more b _ f (solid s) = solid (f, s)

-- a solid front goes on into the next word
across_length : (y a : List ℕ) → Solid y → word_length (y ++ a) ≡ length y + word_length a
across_length [] a s = omega arith
across_length (b ∷ y) a (n, s) = cond-false (eqb b 32) 0 (suc (word_length (y ++ a))) n ∙ (let h = across_length y a s in omega arith)

first_across : (y a : List ℕ) → Solid y → first_word (y ++ a) ≡ y ++ first_word a
first_across y a s = ap (λ n. take n (y ++ a)) (across_length y a s) ∙ take-append-add y a (word_length a)

after_across : (y a : List ℕ) → Solid y → after_word (y ++ a) ≡ after_word a
after_across y a s = ap (λ n. drop n (y ++ a)) (across_length y a s) ∙ drop-append-add y a (word_length a)

after_short : (s : List ℕ) → length (after_word s) ≤ length s
after_short s = let l = length-drop (word_length s) s in omega arith

-- a flaw within y is there whatever follows
flaw_across : (i : ℕ) (y a u : List ℕ) (p : ℕ) → flaw i (y ++ a) ≡ Some p → p < i + length y → flaw i (y ++ u) ≡ Some p
flaw_across i [] a u p e l = absurd (late i a p e (omega arith))
  where
    late : (i : ℕ) (a : List ℕ) (p : ℕ) → flaw i a ≡ Some p → p < i → ⊥
    late i [] p e l = grind (arith, nat_tests)
    late i (b ∷ a) p e l = grind (arith, nat_tests, late (suc i) a p)
flaw_across i (b ∷ y) a u p e l = grind (arith, nat_tests, flaw_across (suc i) y a u p)

-- s is read with a behind the front of q bytes, and again with u there
module _ (q : ℕ) (a u : List ℕ) where
  abbrev T : ℕ
  T = q + length a

  abbrev T' : ℕ
  T' = q + length u

  place_here : (y : List ℕ) → place T (y ++ a) ≡ q - length y
  place_here y = let l = length-append y a in omega arith

  place_there : (y : List ℕ) → place T' (y ++ u) ≡ q - length y
  place_there y = let l = length-append y u in omega arith

  place_same : (y : List ℕ) → place T (y ++ a) ≡ place T' (y ++ u)
  place_same y = place_here y ∙ sym (place_there y)

  -- a result that only what follows the front decided: a firm fault in it is told behind the front
  abbrev Beyond : Parsed → Type 0
  Beyond (Ok p) = length p.1 ≤ length a
  Beyond (Err e) = Firm e → q ≤ place_of e

  -- a result that the front decided is the same again, and any other is beyond it
  abbrev Local : Parsed → Parsed → Type 0
  Local (Ok p) r = ((z : List ℕ) × (0 < length z) × (p.1 ≡ z ++ a) × (r ≡ Ok (p.0, z ++ u))) ⊎ (length p.1 ≤ length a)
  Local (Err e) r = Firm e → place_of e < q → r ≡ Err e

  beyond_local : (r r' : Parsed) → Beyond r → Local r r'
  beyond_local (Ok p) r' b = inr b
  beyond_local (Err e) r' b = λ f l. absurd (let h = b f in omega arith)

  bind_beyond : (r : Parsed) (g : Spelled × List ℕ → Parsed) → Beyond r → ((p : Spelled × List ℕ) → length p.1 ≤ length a → Beyond (g p)) → Beyond (after r g)
  bind_beyond (Ok p) g b h = h p b
  bind_beyond (Err e) g b h = b

  bind_local : (r r' : Parsed) (g g' : Spelled × List ℕ → Parsed) → Local r r' → ((t : Spelled) (z : List ℕ) → 0 < length z → Local (g (t, z ++ a)) (g' (t, z ++ u))) → ((p : Spelled × List ℕ) → length p.1 ≤ length a → Beyond (g p)) → Local (after r g) (after r' g')
  bind_local (Ok p) r' g g' (inl (z, pos, e, f)) h b =
      let there : after r' g' ≡ g' (p.0, z ++ u) = ap (λ r. after r g') f in
      let here : g p ≡ g (p.0, z ++ a) = ap (λ k. g (p.0, k)) e in
      subst (λ x. Local x (after r' g')) (sym here) (subst (Local (g (p.0, z ++ a))) (sym there) (h p.0 z pos))
  bind_local (Ok p) r' g g' (inr l) h b = beyond_local (g p) (after r' g') (b p l)
  bind_local (Err e) r' g g' l h b = λ f k. ap (λ r. after r g') (l f k)

  -- the gap

  gap_beyond : (b : List ℕ) (g : List ℕ → Parsed) → length b ≤ suc (length a) → ((k : List ℕ) → length k ≤ length a → Beyond (g k)) → Beyond (after (gap T b) g)
  gap_beyond [] g l h = λ f. absurd f
  gap_beyond (s ∷ []) g l h = λ f. absurd f
  gap_beyond (s ∷ c ∷ cs) g l h =
      ⊎_elim
      (λ t. subst (λ r. Beyond (after r g)) (sym (cond-true (eqb c 32) (Err (StraySpace (place T (c ∷ cs)))) (Ok (c ∷ cs)) t)) (λ f. absurd f))
      (λ n. subst (λ r. Beyond (after r g)) (sym (cond-false (eqb c 32) (Err (StraySpace (place T (c ∷ cs)))) (Ok (c ∷ cs)) n)) (h (c ∷ cs) (omega arith)))
      (cases_Bool (eqb c 32))

  gap_local : (z : List ℕ) (g g' : List ℕ → Parsed) → ((y : List ℕ) → Local (g (y ++ a)) (g' (y ++ u))) → ((k : List ℕ) → length k ≤ length a → Beyond (g k)) → Local (after (gap T (z ++ a)) g) (after (gap T' (z ++ u)) g')
  gap_local [] g g' h b = beyond_local (after (gap T a) g) _ (gap_beyond a g (omega arith) b)
  gap_local (s ∷ []) g g' h b = beyond_local (after (gap T (s ∷ a)) g) _ (gap_beyond (s ∷ a) g (omega arith) b)
  gap_local (s ∷ c ∷ z) g g' h b =
      ⊎_elim
      (λ t. subst (λ r. Local (after r g) (after (gap T' (s ∷ c ∷ z ++ u)) g')) (sym (cond-true (eqb c 32) (Err (StraySpace (place T (c ∷ z ++ a)))) (Ok (c ∷ z ++ a)) t)) (λ f. absurd f))
      (λ n.
      subst (λ r. Local (after r g) (after (gap T' (s ∷ c ∷ z ++ u)) g')) (sym (cond-false (eqb c 32) (Err (StraySpace (place T (c ∷ z ++ a)))) (Ok (c ∷ z ++ a)) n))
      (subst (λ r. Local (g (c ∷ z ++ a)) (after r g')) (sym (cond-false (eqb c 32) (Err (StraySpace (place T' (c ∷ z ++ u)))) (Ok (c ∷ z ++ u)) n)) (h (c ∷ z))))
      (cases_Bool (eqb c 32))

  -- a name at the start of y, and what is made with it and the text behind it

  name_beyond : (k w : List ℕ) (g : List ℕ → Parsed) → length k ≤ length a → ((n : List ℕ) → Beyond (g n)) → Beyond (after (name_at T k w) g)
  name_beyond k w g l h = by (flaw 0 w)
    where
      by : (f : Option ℕ) → Beyond (after (named (place T k) w f) g)
      by None = h w
      by (Some i) = λ f. omega arith

  module _ (g g' : List ℕ → List ℕ → Parsed) (h : (n z : List ℕ) → 0 < length z → Local (g n (z ++ a)) (g' n (z ++ u))) (b : (n c : List ℕ) → length c ≤ length a → Beyond (g n c)) where
    -- a whole word in the front, with z behind it
    same_name : (w z : List ℕ) (p p' : ℕ) → p ≡ p' → 0 < length z → (f : Option ℕ) → Local (after (named p w f) (λ n. g n (z ++ a))) (after (named p' w f) (λ n. g' n (z ++ u)))
    same_name w z p p' e pos None = h w z pos
    same_name w z p p' e pos (Some i) = λ f l. ap (λ j. Err (BadName (j + i))) (sym e)

    -- a word that goes on behind the front
    long_name : (y wa wu ca cu : List ℕ) (p p' : ℕ) → p ≡ p' → p ≡ q - length y → length ca ≤ length a → (f : Option ℕ) → flaw 0 (y ++ wa) ≡ f → Local (after (named p (y ++ wa) f) (λ n. g n ca)) (after (named p' (y ++ wu) (flaw 0 (y ++ wu))) (λ n. g' n cu))
    long_name y wa wu ca cu p p' e at l None fe = beyond_local (g (y ++ wa) ca) _ (b (y ++ wa) ca l)
    long_name y wa wu ca cu p p' e at l (Some i) fe =
        λ f k. ap (λ o. after (named p' (y ++ wu) o) (λ n. g' n cu)) (flaw_across 0 y wa wu i fe (omega arith)) ∙ ap (λ j. Err (BadName (j + i))) (sym e)

    abbrev Words : List ℕ → List ℕ → List ℕ → List ℕ → List ℕ → List ℕ → Type 0
    Words ra ru wa wu ca cu = Local (after (name_at T ra wa) (λ n. g n ca)) (after (name_at T' ru wu) (λ n. g' n cu))

    moved : (ra ru : List ℕ) {wa wa₁ wu wu₁ ca ca₁ cu cu₁ : List ℕ} → wa ≡ wa₁ → wu ≡ wu₁ → ca ≡ ca₁ → cu ≡ cu₁ → Words ra ru wa₁ wu₁ ca₁ cu₁ → Words ra ru wa wu ca cu
    moved ra ru {wa} {wa₁} {wu} {wu₁} {ca} {ca₁} {cu} {cu₁} p q r s x =
        subst (λ v. Words ra ru v wu ca cu) (sym p) (subst (λ v. Words ra ru wa₁ v ca cu) (sym q) (subst (λ v. Words ra ru wa₁ wu₁ v cu) (sym r) (subst (λ v. Words ra ru wa₁ wu₁ ca₁ v) (sym s) x)))

    word_local : (y : List ℕ) → Split y → Words (y ++ a) (y ++ u) (first_word (y ++ a)) (first_word (y ++ u)) (after_word (y ++ a)) (after_word (y ++ u))
    word_local _ (spaced w z s) =
        let ea = append_assoc w (32 ∷ z) a in
        let eu = append_assoc w (32 ∷ z) u in
        moved ((w ++ 32 ∷ z) ++ a) ((w ++ 32 ∷ z) ++ u) (ap first_word ea ∙ first_is w (32 ∷ z ++ a) s refl) (ap first_word eu ∙ first_is w (32 ∷ z ++ u) s refl) (ap after_word ea ∙ after_is w (32 ∷ z ++ a) s refl) (ap after_word eu ∙ after_is w (32 ∷ z ++ u) s refl)
        (same_name w (32 ∷ z) (place T ((w ++ 32 ∷ z) ++ a)) (place T' ((w ++ 32 ∷ z) ++ u)) (place_same (w ++ 32 ∷ z)) (omega arith) (flaw 0 w))
    word_local y (solid s) =
        moved (y ++ a) (y ++ u) (first_across y a s) (first_across y u s) (after_across y a s) refl
        (long_name y (first_word a) (first_word u) (after_word a) (after_word (y ++ u)) (place T (y ++ a)) (place T' (y ++ u)) (place_same y) (place_here y) (after_short a) (flaw 0 (y ++ first_word a)) refl)

  -- the parts

  module _ (sub sub' : List ℕ → Parsed) (sb : (r : List ℕ) → length r ≤ length a → Beyond (sub r)) where
    one_beyond : (b : List ℕ) (make : Spelled → Spelled) → length b ≤ suc (length a) → Beyond (one_part T sub b make)
    one_beyond b make l = bind_beyond (part T sub b) (λ p. Ok (make p.0, p.1)) (gap_beyond b sub l sb) (λ p h. h)

    two_beyond : (b : List ℕ) (make : Spelled → Spelled → Spelled) → length b ≤ suc (length a) → Beyond (two_parts T sub b make)
    two_beyond b make l = bind_beyond (part T sub b) (λ p. one_part T sub p.1 (make p.0)) (gap_beyond b sub l sb) (λ p h. one_beyond p.1 (make p.0) (omega arith))

    link_name_beyond : (make : List ℕ → Spelled → Spelled) (k : List ℕ) → length k ≤ length a → Beyond (after (name_at T k (first_word k)) (λ r. one_part T sub (after_word k) (make r)))
    link_name_beyond make k h = name_beyond k (first_word k) (λ r. one_part T sub (after_word k) (make r)) h (λ n. one_beyond (after_word k) (make n) (let s = after_short k in omega arith))

    link_beyond : (b : List ℕ) (make : List ℕ → Spelled → Spelled) → length b ≤ suc (length a) → Beyond (linked T sub b make)
    link_beyond b make l = gap_beyond b (λ k. after (name_at T k (first_word k)) (λ r. one_part T sub (after_word k) (make r))) l (link_name_beyond make)

    operated_beyond : (op : Operator) (b : List ℕ) → length b ≤ length a → Beyond (operated T sub b op)
    operated_beyond Top b l = l
    operated_beyond Bottom b l = l
    operated_beyond Not b l = one_beyond b neg (omega arith)
    operated_beyond (Joining j) b l = two_beyond b (joins j) (omega arith)
    operated_beyond (Quantifying k) b l = link_beyond b (quantifies k) (omega arith)

    -- no name, and behind the word only what follows the front
    parts_beyond : (r : List ℕ) (m : Option Word) → length (after_word r) ≤ length a → ((w : List ℕ) → Beyond (only_class (place T r) w (after_word r))) → Beyond (parts T sub r m)
    parts_beyond r None l c = λ f. absurd f
    parts_beyond r (Some (name w)) l c = c w
    parts_beyond r (Some (operator op)) l c = operated_beyond op (after_word r) l
    parts_beyond r (Some (reader m i)) l c = one_beyond (after_word r) (modalizes m i) (omega arith)

    module _ (sl : (y : List ℕ) → Local (sub (y ++ a)) (sub' (y ++ u))) where
      one_local : (z : List ℕ) (make : Spelled → Spelled) → Local (one_part T sub (z ++ a) make) (one_part T' sub' (z ++ u) make)
      one_local z make = bind_local (part T sub (z ++ a)) (part T' sub' (z ++ u)) (λ p. Ok (make p.0, p.1)) (λ p. Ok (make p.0, p.1)) (gap_local z sub sub' sl sb) (λ t y pos. inl (y, pos, refl, refl)) (λ p h. h)

      two_local : (z : List ℕ) (make : Spelled → Spelled → Spelled) → Local (two_parts T sub (z ++ a) make) (two_parts T' sub' (z ++ u) make)
      two_local z make = bind_local (part T sub (z ++ a)) (part T' sub' (z ++ u)) (λ p. one_part T sub p.1 (make p.0)) (λ p. one_part T' sub' p.1 (make p.0)) (gap_local z sub sub' sl sb) (λ t y pos. one_local y (make t)) (λ p h. one_beyond p.1 (make p.0) (omega arith))

      link_local : (z : List ℕ) (make : List ℕ → Spelled → Spelled) → Local (linked T sub (z ++ a) make) (linked T' sub' (z ++ u) make)
      link_local z make =
          gap_local z (λ k. after (name_at T k (first_word k)) (λ r. one_part T sub (after_word k) (make r))) (λ k. after (name_at T' k (first_word k)) (λ r. one_part T' sub' (after_word k) (make r)))
          (λ y. word_local (λ n c. one_part T sub c (make n)) (λ n c. one_part T' sub' c (make n)) (λ n y pos. one_local y (make n)) (λ n c l. one_beyond c (make n) (omega arith)) y (split y))
          (link_name_beyond make)

      operated_local : (op : Operator) (z : List ℕ) → 0 < length z → Local (operated T sub (z ++ a) op) (operated T' sub' (z ++ u) op)
      operated_local Top z pos = inl (z, pos, refl, refl)
      operated_local Bottom z pos = inl (z, pos, refl, refl)
      operated_local Not z pos = one_local z neg
      operated_local (Joining j) z pos = two_local z (joins j)
      operated_local (Quantifying k) z pos = link_local z (quantifies k)

      class_rule : (n z : List ℕ) → 0 < length z → Local (Ok (class n, z ++ a)) (Ok (class n, z ++ u))
      class_rule n z pos = inl (z, pos, refl, refl)

      -- a whole word in the front
      parts_local : (ra ru z : List ℕ) (m : Option Word) → place T ra ≡ place T' ru → 0 < length z → after_word ra ≡ z ++ a → after_word ru ≡ z ++ u → Local (parts T sub ra m) (parts T' sub' ru m)
      parts_local ra ru z None e pos ba bu = λ f. absurd f
      parts_local ra ru z (Some (name w)) e pos ba bu =
          subst (λ c. Local (only_class (place T ra) w c) (only_class (place T' ru) w (after_word ru))) (sym ba)
          (subst (λ c. Local (only_class (place T ra) w (z ++ a)) (only_class (place T' ru) w c)) (sym bu)
          (same_name (λ n c. Ok (class n, c)) (λ n c. Ok (class n, c)) class_rule (λ n c l. l) w z (place T ra) (place T' ru) e pos (flaw 0 w)))
      parts_local ra ru z (Some (operator op)) e pos ba bu =
          subst (λ c. Local (operated T sub c op) (operated T' sub' (after_word ru) op)) (sym ba) (subst (λ c. Local (operated T sub (z ++ a) op) (operated T' sub' c op)) (sym bu) (operated_local op z pos))
      parts_local ra ru z (Some (reader m i)) e pos ba bu =
          subst (λ c. Local (one_part T sub c (modalizes m i)) (one_part T' sub' (after_word ru) (modalizes m i))) (sym ba) (subst (λ c. Local (one_part T sub (z ++ a) (modalizes m i)) (one_part T' sub' c (modalizes m i))) (sym bu) (one_local z (modalizes m i)))

      -- a first word that goes on behind the front, by what its first byte says
      solid_local : (b : ℕ) (y : List ℕ) → Solid (b ∷ y) → (s : Sign) → sign b ≡ s → Local (parts T sub (b ∷ y ++ a) (completed s b (y ++ first_word a))) (parts T' sub' (b ∷ y ++ u) (completed s b (y ++ first_word u)))
      solid_local b y so letter e =
          subst (λ c. Local (only_class (place T (b ∷ y ++ a)) (b ∷ y ++ first_word a) c) (only_class (place T' (b ∷ y ++ u)) (b ∷ y ++ first_word u) (after_word (b ∷ y ++ u)))) (sym (after_across (b ∷ y) a so))
          (long_name (λ n c. Ok (class n, c)) (λ n c. Ok (class n, c)) class_rule (λ n c l. l) (b ∷ y) (first_word a) (first_word u) (after_word a) (after_word (b ∷ y ++ u)) (place T (b ∷ y ++ a)) (place T' (b ∷ y ++ u)) (place_same (b ∷ y)) (place_here (b ∷ y)) (after_short a) (flaw 0 (b ∷ y ++ first_word a)) refl)
      solid_local b y so (bare op) e = beyond_local (parts T sub (b ∷ y ++ a) (completed (bare op) b (y ++ first_word a))) _ (no_name (y ++ first_word a))
        where
          short : length (after_word (b ∷ y ++ a)) ≤ length a
          short = subst (λ c. length c ≤ length a) (sym (after_across (b ∷ y) a so)) (after_short a)

          no_name : (cs : List ℕ) → Beyond (parts T sub (b ∷ y ++ a) (completed (bare op) b cs))
          no_name [] = operated_beyond op (after_word (b ∷ y ++ a)) short
          no_name (c ∷ cs) = λ f. absurd f
      solid_local b y so (modal m) e = beyond_local (parts T sub (b ∷ y ++ a) (completed (modal m) b (y ++ first_word a))) _ (no_name (y ++ first_word a))
        where
          short : length (after_word (b ∷ y ++ a)) ≤ length a
          short = subst (λ c. length c ≤ length a) (sym (after_across (b ∷ y) a so)) (after_short a)

          no_name : (cs : List ℕ) → Beyond (parts T sub (b ∷ y ++ a) (completed (modal m) b cs))
          no_name [] = λ f. absurd f
          no_name (d ∷ []) =
              ⊎_elim
              (λ t. subst (λ o. Beyond (parts T sub (b ∷ y ++ a) o)) (sym (cond-true _ (Some (reader m (d - 48))) None t)) (one_beyond (after_word (b ∷ y ++ a)) (modalizes m (d - 48)) (let h = short in omega arith)))
              (λ f. subst (λ o. Beyond (parts T sub (b ∷ y ++ a) o)) (sym (cond-false _ (Some (reader m (d - 48))) None f)) (λ f. absurd f))
              (cases_Bool _)
          no_name (d ∷ c ∷ cs) = λ f. absurd f

  parse_beyond : (n : ℕ) (r : List ℕ) → length r ≤ length a → Beyond (parse T n r)
  unfolding parse
  parse_beyond zero r l = λ f. omega arith
  parse_beyond (suc n) r l =
      let short : length (after_word r) ≤ length a = let s = after_short r in omega arith in
      parts_beyond (parse T n) (parse T' n) (parse_beyond n) r (meant (first_word r)) short (λ w. name_beyond r w (λ m. Ok (class m, after_word r)) l (λ m. short))

  step_local : (n : ℕ) → ((y : List ℕ) → Local (parse T n (y ++ a)) (parse T' n (y ++ u))) → (y : List ℕ) → Split y → Local (parse T (suc n) (y ++ a)) (parse T' (suc n) (y ++ u))
  unfolding parse
  step_local n ih _ (spaced w z s) =
      let ea = append_assoc w (32 ∷ z) a in
      let eu = append_assoc w (32 ∷ z) u in
      let fa = ap first_word ea ∙ first_is w (32 ∷ z ++ a) s refl in
      let fu = ap first_word eu ∙ first_is w (32 ∷ z ++ u) s refl in
      subst (λ v. Local (parts T (parse T n) ((w ++ 32 ∷ z) ++ a) (meant v)) (parts T' (parse T' n) ((w ++ 32 ∷ z) ++ u) (meant (first_word ((w ++ 32 ∷ z) ++ u))))) (sym fa)
      (subst (λ v. Local (parts T (parse T n) ((w ++ 32 ∷ z) ++ a) (meant w)) (parts T' (parse T' n) ((w ++ 32 ∷ z) ++ u) (meant v))) (sym fu)
      (parts_local (parse T n) (parse T' n) (parse_beyond n) ih ((w ++ 32 ∷ z) ++ a) ((w ++ 32 ∷ z) ++ u) (32 ∷ z) (meant w) (place_same (w ++ 32 ∷ z)) (omega arith) (ap after_word ea ∙ after_is w (32 ∷ z ++ a) s refl) (ap after_word eu ∙ after_is w (32 ∷ z ++ u) s refl)))
  step_local n ih [] (solid s) = beyond_local (parse T (suc n) a) _ (parse_beyond (suc n) a (omega arith))
  step_local n ih (b ∷ y) (solid s) =
      subst (λ v. Local (parts T (parse T n) (b ∷ y ++ a) (meant v)) (parts T' (parse T' n) (b ∷ y ++ u) (meant (first_word (b ∷ y ++ u))))) (sym (first_across (b ∷ y) a s))
      (subst (λ v. Local (parts T (parse T n) (b ∷ y ++ a) (completed (sign b) b (y ++ first_word a))) (parts T' (parse T' n) (b ∷ y ++ u) (meant v))) (sym (first_across (b ∷ y) u s))
      (solid_local (parse T n) (parse T' n) (parse_beyond n) ih b y s (sign b) refl))

  parse_local : (n : ℕ) (y : List ℕ) → Local (parse T n (y ++ a)) (parse T' n (y ++ u))
  unfolding parse
  parse_local zero y = λ f l. ap (λ p. Err (TooDeep p)) (sym (place_same y))
  parse_local (suc n) y = step_local n (parse_local n) y (split y)

  -- what stands behind a whole term
  ended_local : (t : Spelled) (z : List ℕ) (e : Refusal) → Firm e → place_of e < q → ended T t (z ++ a) ≡ Err e → ended T' t (z ++ u) ≡ Err e
  ended_local t [] e f l h = absurd (late a e f l h)
    where
      late : (k : List ℕ) (e : Refusal) → Firm e → place_of e < q → ended (q + length k) t k ≡ Err e → ⊥
      late [] e f l h = cc
      late (s ∷ []) e f l h = let is : StraySpace (place (q + 1) (s ∷ [])) ≡ e = cc in subst Firm (sym is) f
      late (s ∷ b ∷ bs) e f l h =
          ⊎_elim
          (λ t'. let k = sym (cond-true _ _ _ t') ∙ h in let is : StraySpace (place (q + length (s ∷ b ∷ bs)) (b ∷ bs)) ≡ e = cc in subst Firm (sym is) f)
          (λ n. let k = sym (cond-false _ _ _ n) ∙ h in let is : LeftOver (place (q + length (s ∷ b ∷ bs)) (b ∷ bs)) ≡ e = cc in let at = ap place_of is in omega arith)
          (cases_Bool (eqb b 32))
  ended_local t (s ∷ []) e f l h = absurd (late a e f l h)
    where
      late : (k : List ℕ) (e : Refusal) → Firm e → place_of e < q → ended (q + length k) t (s ∷ k) ≡ Err e → ⊥
      late [] e f l h = let is : StraySpace (place (q + 0) (s ∷ [])) ≡ e = cc in subst Firm (sym is) f
      late (b ∷ bs) e f l h =
          ⊎_elim
          (λ t'. let k = sym (cond-true _ _ _ t') ∙ h in let is : StraySpace (place (q + length (b ∷ bs)) (b ∷ bs)) ≡ e = cc in subst Firm (sym is) f)
          (λ n. let k = sym (cond-false _ _ _ n) ∙ h in let is : LeftOver (place (q + length (b ∷ bs)) (b ∷ bs)) ≡ e = cc in let at = ap place_of is in omega arith)
          (cases_Bool (eqb b 32))
  ended_local t (s ∷ c ∷ z) e f l h =
      ⊎_elim
      (λ t'. let k = sym (cond-true _ _ _ t') ∙ h in let is : StraySpace (place T (c ∷ z ++ a)) ≡ e = cc in absurd (subst Firm (sym is) f))
      (λ n. let k = sym (cond-false _ _ _ n) ∙ h in cond-false (eqb c 32) _ (Err (LeftOver (place T' (c ∷ z ++ u)))) n ∙ ap (λ p. Err (LeftOver p)) (sym (place_same (c ∷ z))) ∙ k)
      (cases_Bool (eqb c 32))

  ended_beyond : (t : Spelled) (k : List ℕ) (e : Refusal) → length k ≤ length a → Firm e → place_of e < q → ended T t k ≡ Err e → ⊥
  ended_beyond t [] e m f l h = cc
  ended_beyond t (s ∷ []) e m f l h = let is : StraySpace (place T (s ∷ [])) ≡ e = cc in subst Firm (sym is) f
  ended_beyond t (s ∷ b ∷ bs) e m f l h =
      ⊎_elim
      (λ t'. let k = sym (cond-true _ _ _ t') ∙ h in let is : StraySpace (place T (b ∷ bs)) ≡ e = cc in subst Firm (sym is) f)
      (λ n. let k = sym (cond-false _ _ _ n) ∙ h in let is : LeftOver (place T (b ∷ bs)) ≡ e = cc in let at = ap place_of is in omega arith)
      (cases_Bool (eqb b 32))

  -- the whole text, from its first word on
  abbrev whole : ℕ → Parsed → Result Spelled Refusal
  whole total r = after r (λ p. ended total p.0 p.1)

  whole_local : (r r' : Parsed) (e : Refusal) → Local r r' → Firm e → place_of e < q → whole T r ≡ Err e → whole T' r' ≡ Err e
  whole_local (Err e') r' e h f l w =
      let is : e' ≡ e = cc in
      ap (whole T') (subst (λ x. Firm x → place_of x < q → r' ≡ Err x) is h f l)
  whole_local (Ok p) r' e (inl (z, pos, k, g)) f l w =
      ap (whole T') g ∙ ended_local p.0 z e f l (ap (ended T p.0) (sym k) ∙ w)
  whole_local (Ok p) r' e (inr m) f l w = absurd (ended_beyond p.0 p.1 e m f l w)

abbrev after_whole : ℕ → Parsed → Result Spelled Refusal
after_whole total r = after r (λ p. ended total p.0 p.1)

-- a firm fault stands whatever follows its place
read_firm : (x a u : List ℕ) (e : Refusal) → Firm e → place_of e < length x → reading (x ++ a) ≡ Err e → reading (x ++ u) ≡ Err e
read_firm [] a u e f l h = absurd (omega arith)
read_firm (b ∷ x) a u e f l h =
    let la : length (b ∷ x ++ a) ≡ length (b ∷ x) + length a = length-append (b ∷ x) a in
    let lu : length (b ∷ x ++ u) ≡ length (b ∷ x) + length u = length-append (b ∷ x) u in
    ⊎_elim
    (λ t. let k = sym (ap (λ r. after r (λ k. after_whole (length (b ∷ x ++ a)) (parse (length (b ∷ x ++ a)) 32 k))) (cond-true (eqb b 32) (Err (StraySpace 0)) (Ok (b ∷ x ++ a)) t)) ∙ h in let is : StraySpace 0 ≡ e = cc in absurd (subst Firm (sym is) f))
    (λ n.
    let here : after_whole (length (b ∷ x ++ a)) (parse (length (b ∷ x ++ a)) 32 (b ∷ x ++ a)) ≡ Err e = sym (ap (λ r. after r (λ k. after_whole (length (b ∷ x ++ a)) (parse (length (b ∷ x ++ a)) 32 k))) (cond-false (eqb b 32) (Err (StraySpace 0)) (Ok (b ∷ x ++ a)) n)) ∙ h in
    let there = whole_local (length (b ∷ x)) a u (parse (length (b ∷ x) + length a) 32 (b ∷ x ++ a)) (parse (length (b ∷ x) + length u) 32 (b ∷ x ++ u)) e (parse_local (length (b ∷ x)) a u 32 (b ∷ x)) f l (subst (λ m. after (parse m 32 (b ∷ x ++ a)) (λ p. ended m p.0 p.1) ≡ Err e) la here) in
    ap (λ r. after r (λ k. after (parse (length (b ∷ x ++ u)) 32 k) (λ p. ended (length (b ∷ x ++ u)) p.0 p.1))) (cond-false (eqb b 32) (Err (StraySpace 0)) (Ok (b ∷ x ++ u)) n)
    ∙ subst (λ m. after (parse m 32 (b ∷ x ++ u)) (λ p. ended m p.0 p.1) ≡ Err e) (sym lu) there)
    (cases_Bool (eqb b 32))

pub firm_stands : (s : List ℕ) (e : Refusal) → reading s ≡ Err e → Firm e → place_of e < length s → (u : List ℕ) → reading (take (suc (place_of e)) s ++ u) ≡ Err e
firm_stands s e h f l u =
    let n = suc (place_of e) in
    read_firm (take n s) (drop n s) u e f (let k = length-take-le n s (omega arith) in omega arith) (ap reading (take-append-drop n s) ∙ h)
