-- The laws of a text cut at a byte. Assumes nothing.
use Rattle.std.proofs.Common.{◌≡◌, ℕ, zero, suc, ◌+◌, ◌<◌, ◌≤◌, false, eqb, List, [], ◌∷◌, ◌++◌, length, get_or, take, drop, sym, refl, ap, ◌∙◌, subst, ⊎_elim, arith}
use Rattle.std.proofs.lemmas.List.{drop_more, drop_all, take_all, take-append-drop, get_or-take, length-take-le}
use Rattle.std.proofs.lemmas.List.Elements.{All-from_get_or}
use Rattle.std.proofs.lemmas.List.Sums.{count_by-le-length}
use Rattle.std.proofs.lemmas.List.Splits.{slice_split_none, slice_split_at, length-slice_split}
use Rattle.std.proofs.lemmas.Bool.{cond-true, cond-false, cond_both, cases_Bool, cases_lt, eqb-false, eq-eqb, ne_eqb}
use Rattle.std.specs.List.{All, onto_first, join_with_byte}
use Rattle.lines.specs.Pieces.{pieces, Lacks}

module _ (b : ℕ) where
  none_is : (s : List ℕ) → Lacks b s → All (λ x. eqb x b ≡ false) s
  none_is s not-b = All-from_get_or (λ x. eqb x b ≡ false) s 0 (λ k h. ne_eqb _ b (not-b k h))

  -- a text with no b is one piece
  pub pieces_whole : (s : List ℕ) → Lacks b s → pieces b s ≡ s ∷ []
  pieces_whole s not-b = slice_split_none _ s (none_is s not-b)

  -- what stands before the first b is the first piece
  pub pieces_cut : (p rest : List ℕ) → Lacks b p → pieces b (p ++ b ∷ rest) ≡ p ∷ pieces b rest
  pieces_cut p rest not-b = slice_split_at _ p b rest (none_is p not-b) (eq-eqb b b refl)

  -- there is at least one piece
  pub pieces_some : (s : List ℕ) → 0 < length (pieces b s)
  pieces_some s = omega (arith, length-slice_split (λ x. eqb x b) s)

  lacks_onto : (x : ℕ) (ps : List (List ℕ)) → (x ≡ b → ⊥) → ((i : ℕ) → Lacks b (get_or ps i [])) → (i : ℕ) → Lacks b (get_or (onto_first x ps) i [])
  lacks_onto x [] not-b all zero zero h = not-b
  lacks_onto x [] not-b all zero (suc k) h = absurd (omega arith)
  lacks_onto x [] not-b all (suc i) k h = absurd (omega arith)
  lacks_onto x (p ∷ ps) not-b all zero zero h = not-b
  lacks_onto x (p ∷ ps) not-b all zero (suc k) h = all 0 k (omega arith)
  lacks_onto x (p ∷ ps) not-b all (suc i) k h = all (suc i) k h

  lacks_end : (ps : List (List ℕ)) → ((i : ℕ) → Lacks b (get_or ps i [])) → (i : ℕ) → Lacks b (get_or ([] ∷ ps) i [])
  lacks_end ps all zero k h = absurd (omega arith)
  lacks_end ps all (suc i) k h = all i k h

  -- no piece holds b
  pub pieces_lack : (s : List ℕ) (i : ℕ) → Lacks b (get_or (pieces b s) i [])
  pieces_lack [] zero = λ k h. absurd (omega arith)
  pieces_lack [] (suc i) = λ k h. absurd (omega arith)
  pieces_lack (x ∷ xs) i =
      ⊎_elim
      (λ t. subst (λ ps. Lacks b (get_or ps i [])) (sym (cond-true _ _ _ t)) (lacks_end (pieces b xs) (pieces_lack xs) i))
      (λ f. subst (λ ps. Lacks b (get_or ps i [])) (sym (cond-false _ _ _ f)) (lacks_onto x (pieces b xs) (eqb-false x b f) (pieces_lack xs) i))
      (cases_Bool (eqb x b))

  -- and no other texts without b are joined to the same text
  pub pieces_joined : (p : List ℕ) (ps : List (List ℕ)) → ((i : ℕ) → Lacks b (get_or (p ∷ ps) i [])) → pieces b (join_with_byte b (p ∷ ps)) ≡ p ∷ ps
  pieces_joined p [] all = pieces_whole p (all 0)
  pieces_joined p (q ∷ qs) all = pieces_cut p (join_with_byte b (q ∷ qs)) (all 0) ∙ ap (λ rs. p ∷ rs) (pieces_joined q qs (λ i. all (suc i)))

  -- a text by its first b, at place n
  pub split_at_byte : (s : List ℕ) (n : ℕ) → n < length s → get_or s n 0 ≡ b → s ≡ take n s ++ b ∷ drop (n + 1) s
  split_at_byte s n h e = sym (take-append-drop n s) ∙ ap (λ r. take n s ++ r) (drop_more s n 0 h ∙ ap (λ x. x ∷ drop (n + 1) s) e)

  pub front_lacks : (s : List ℕ) (n : ℕ) → n ≤ length s → ((k : ℕ) → k < n → get_or s k 0 ≡ b → ⊥) → Lacks b (take n s)
  front_lacks s n h before k l e =
      let long = length-take-le n s h in
      before k (omega arith) (sym (get_or-take n s k 0 (omega arith)) ∙ e)

  pub pieces_at : (s : List ℕ) (n : ℕ) → n < length s → ((k : ℕ) → k < n → get_or s k 0 ≡ b → ⊥) → get_or s n 0 ≡ b → pieces b s ≡ take n s ∷ pieces b (drop (n + 1) s)
  pieces_at s n h before e = ap (pieces b) (split_at_byte s n h e) ∙ pieces_cut (take n s) (drop (n + 1) s) (front_lacks s n (omega arith) before)

  pub pieces_none : (s : List ℕ) (n : ℕ) → length s ≤ n → ((k : ℕ) → k < n → get_or s k 0 ≡ b → ⊥) → pieces b s ≡ s ∷ []
  pieces_none s n h before = pieces_whole s (λ k l. before k (omega arith))

  -- the first piece, and those behind it, where n bytes stand before the first b or the end
  module _ (s : List ℕ) (n : ℕ) (before : (k : ℕ) → k < n → get_or s k 0 ≡ b → ⊥) (found : n < length s → get_or s n 0 ≡ b) where
    pub first_piece : take n s ≡ get_or (pieces b s) 0 []
    first_piece =
        ⊎_elim
        (λ l. sym (ap (λ ps. get_or ps 0 []) (pieces_at s n l before (found l))))
        (λ l. take_all n s l ∙ sym (ap (λ ps. get_or ps 0 []) (pieces_none s n l before)))
        (cases_lt n (length s))

    none_past : (k : ℕ) → get_or (pieces b []) k [] ≡ []
    none_past zero = refl
    none_past (suc k) = refl

    pub later_piece : (k : ℕ) → get_or (pieces b (drop (n + 1) s)) k [] ≡ get_or (pieces b s) (suc k) []
    later_piece k =
        ⊎_elim
        (λ l. sym (ap (λ ps. get_or ps (suc k) []) (pieces_at s n l before (found l))))
        (λ l. ap (λ r. get_or (pieces b r) k []) (drop_all (n + 1) s (omega arith)) ∙ none_past k ∙ sym (ap (λ ps. get_or ps (suc k) []) (pieces_none s n l before)))
        (cases_lt n (length s))

  -- a text has one piece more than bytes b, at most one more than bytes
  pub pieces_few : (s : List ℕ) → length (pieces b s) ≤ length s + 1
  pieces_few s = omega (arith, length-slice_split (λ x. eqb x b) s, count_by-le-length (λ x. eqb x b) s)

  -- a piece is at most as long as the text
  onto_short : (x n : ℕ) (ps : List (List ℕ)) → ((k : ℕ) → length (get_or ps k []) ≤ n) → (k : ℕ) → length (get_or (onto_first x ps) k []) ≤ suc n
  onto_short x n [] h zero = omega arith
  onto_short x n [] h (suc k) = omega arith
  onto_short x n (p ∷ ps) h zero = let l = h 0 in omega arith
  onto_short x n (p ∷ ps) h (suc k) = let l = h (suc k) in omega arith

  end_short : (n : ℕ) (ps : List (List ℕ)) → ((k : ℕ) → length (get_or ps k []) ≤ n) → (k : ℕ) → length (get_or ([] ∷ ps) k []) ≤ suc n
  end_short n ps h zero = omega arith
  end_short n ps h (suc k) = let l = h k in omega arith

  pub piece_short : (s : List ℕ) (k : ℕ) → length (get_or (pieces b s) k []) ≤ length s
  piece_short [] zero = omega arith
  piece_short [] (suc k) = omega arith
  piece_short (x ∷ xs) k =
      cond_both (eqb x b) ([] ∷ pieces b xs) (onto_first x (pieces b xs)) (λ ps. length (get_or ps k []) ≤ suc (length xs))
      (λ _. end_short (length xs) (pieces b xs) (piece_short xs) k)
      (λ _. onto_short x (length xs) (pieces b xs) (piece_short xs) k)
