-- What is read is what is written: soundness and completeness of reading. Assumes nothing.
use Rattle.std.proofs.Common.{◌≡◌, ℕ, zero, suc, ◌+◌, ◌<◌, ◌≤◌, max, true, false, eqb, List, [], ◌∷◌, ◌++◌, length, get_or, take, drop, Some, None, Ok, Err, Option, Result, sym, refl, ap, ◌∙◌, subst, append_assoc, arith, take-append-drop}
use Rattle.std.proofs.lemmas.List.{append-nil, take_at, drop_at}
use Rattle.std.proofs.lemmas.Bool.{cond-true, cond-false, ne_eqb, eq-eqb}
use Rattle.std.proofs.lemmas.Bool.Decides.{nat_tests}
use Rattle.terms.specs.Forms.{joins, quantifies, modalizes}
use Rattle.names.specs.Name.{follows, flaw, Legal}
use Rattle.terms.specs.Parse.{after, gap, named, name_at, only_class, part, one_part, two_parts, linked, operated, parts, parse, place, ended, begun, reading}
use Rattle.terms.specs.Term.{Spelled, top, bottom, class, neg, and, or, exists, forall, may, must, written, depth, Valid, Readable}
use Rattle.terms.specs.Word.{Word, operator, reader, name, word_length, first_word, after_word, meant}
use Rattle.names.specs.declared.refusals.Refusal.{Refusal}
use Rattle.terms.specs.declared.words.Join.{Join}
use Rattle.terms.specs.declared.words.Join.TheVariants.{And, Or}
use Rattle.terms.specs.declared.words.Modality.{Modality}
use Rattle.terms.specs.declared.words.Modality.TheVariants.{May, Must}
use Rattle.terms.specs.declared.words.Operator.{Operator}
use Rattle.terms.specs.declared.words.Operator.TheVariants.{Top, Bottom, Not, Join as Joining, Quantifier as Quantifying}
use Rattle.terms.specs.declared.words.Quantifier.{Quantifier}
use Rattle.terms.specs.declared.words.Quantifier.TheVariants.{Exists, Forall}
use Rattle.names.proofs.Flaws.{legal_when, when_legal}
use Rattle.terms.proofs.Symbols.{symbol, modal_symbol, spells, means_operator, means_reader, means_name}

-- a text at the end of a word: nothing, or a space
abbrev pub Ended : List ℕ → Type 0
Ended [] = Unit {0}
Ended (b ∷ bs) = b ≡ 32

-- if two steps gave a result, so did the first
after_inv : {X Y : Type 0} (r : Result X Refusal) (f : X → Result Y Refusal) (y : Y) → after r f ≡ Ok y → (x : X) × (r ≡ Ok x) × (f x ≡ Ok y)
after_inv (Ok x) f y e = (x, refl, e)
after_inv (Err e') f y e = cc

-- words

pub after_ended : (s : List ℕ) → Ended (after_word s)
after_ended [] = tt
after_ended (b ∷ bs) = grind (arith, nat_tests, after_ended bs)

pub word_whole : (s : List ℕ) → s ≡ first_word s ++ after_word s
word_whole s = sym (take-append-drop (word_length s) s)

-- no byte of w is a space
abbrev pub Solid : List ℕ → Type 0
Solid [] = Unit {0}
Solid (b ∷ bs) = (eqb b 32 ≡ false) × Solid bs

pub solid_length : (w k : List ℕ) → Solid w → Ended k → word_length (w ++ k) ≡ length w
solid_length [] [] s e = refl
solid_length [] (b ∷ bs) s e = cond-true (eqb b 32) 0 (suc (word_length bs)) (eq-eqb b 32 e)
solid_length (b ∷ w) k (n, s) e = cond-false (eqb b 32) 0 (suc (word_length (w ++ k))) n ∙ ap suc (solid_length w k s e)

pub first_is : (w k : List ℕ) → Solid w → Ended k → first_word (w ++ k) ≡ w
first_is w k s e = ap (λ n. take n (w ++ k)) (solid_length w k s e) ∙ take_at w k (length w) refl

pub after_is : (w k : List ℕ) → Solid w → Ended k → after_word (w ++ k) ≡ k
after_is w k s e = ap (λ n. drop n (w ++ k)) (solid_length w k s e) ∙ drop_at w k (length w) refl

follow_solid : (b : ℕ) → follows b ≡ true → eqb b 32 ≡ false
follow_solid b f = grind (arith, nat_tests)

all_solid : (w : List ℕ) → ((k : ℕ) → k < length w → follows (get_or w k 0) ≡ true) → Solid w
all_solid [] h = tt
all_solid (b ∷ w) h = (follow_solid b (h 0 (omega arith)), all_solid w (λ k l. h (suc k) (omega arith)))

legal_solid : (w : List ℕ) → Legal w → Solid w
legal_solid w n = all_solid w n.rest

-- the space between two words

gap_inv : (total : ℕ) (b k : List ℕ) → Ended b → gap total b ≡ Ok k → b ≡ 32 ∷ k
gap_inv total [] k e g = cc
gap_inv total (s ∷ []) k e g = cc
gap_inv total (s ∷ b ∷ bs) k e g = grind (arith, nat_tests)

-- s begins with a byte that is no space
abbrev Starts : List ℕ → Type 0
Starts [] = ⊥
Starts (b ∷ bs) = eqb b 32 ≡ false

gap_starts : (total : ℕ) (s : List ℕ) → Starts s → gap total (32 ∷ s) ≡ Ok s
gap_starts total [] n = absurd n
gap_starts total (b ∷ bs) n = cond-false (eqb b 32) _ (Ok (b ∷ bs)) n

-- soundness

pub record Sound (n : ℕ) (rest : List ℕ) (t : Spelled) (k : List ℕ) : Type 0 where
  pub text : rest ≡ written t ++ k
  pub valid : Valid t
  pub shallow : depth t ≤ n
  pub ends : Ended k

named_inv : (p : ℕ) (w n : List ℕ) (r : Option ℕ) → named p w r ≡ Ok n → (n ≡ w) × (r ≡ None)
named_inv p w n None e = (cc, refl)
named_inv p w n (Some i) e = cc

join_text : (j : Join) (t u : Spelled) → written (joins j t u) ≡ symbol (Joining j) ∷ 32 ∷ (written t ++ 32 ∷ written u)
join_text And t u = refl
join_text Or t u = refl

join_valid : (j : Join) (t u : Spelled) → Valid t → Valid u → Valid (joins j t u)
join_valid And t u v w = (v, w)
join_valid Or t u v w = (v, w)

join_depth : (j : Join) (t u : Spelled) → depth (joins j t u) ≡ suc (max (depth t) (depth u))
join_depth And t u = refl
join_depth Or t u = refl

link_text : (q : Quantifier) (r : List ℕ) (t : Spelled) → written (quantifies q r t) ≡ symbol (Quantifying q) ∷ 32 ∷ (r ++ 32 ∷ written t)
link_text Exists r t = refl
link_text Forall r t = refl

link_valid : (q : Quantifier) (r : List ℕ) (t : Spelled) → Legal r → Valid t → Valid (quantifies q r t)
link_valid Exists r t v w = (v, w)
link_valid Forall r t v w = (v, w)

link_depth : (q : Quantifier) (r : List ℕ) (t : Spelled) → depth (quantifies q r t) ≡ suc (depth t)
link_depth Exists r t = refl
link_depth Forall r t = refl

modal_text : (m : Modality) (i : ℕ) (t : Spelled) → written (modalizes m i t) ≡ modal_symbol m ∷ (48 + i) ∷ 32 ∷ written t
modal_text May i t = refl
modal_text Must i t = refl

modal_valid : (m : Modality) (i : ℕ) (t : Spelled) → 1 ≤ i → i ≤ 8 → Valid t → Valid (modalizes m i t)
modal_valid May i t l h v = (l, h, v)
modal_valid Must i t l h v = (l, h, v)

modal_depth : (m : Modality) (i : ℕ) (t : Spelled) → depth (modalizes m i t) ≡ suc (depth t)
modal_depth May i t = refl
modal_depth Must i t = refl

same_ok : {X : Type 0} {x y : X} → ◌≡◌ {A = Result X Refusal} (Ok x) (Ok y) → x ≡ y
same_ok e = cc

-- a part behind b, with k behind it
record Behind (n : ℕ) (b : List ℕ) (t : Spelled) (k : List ℕ) : Type 0 where
  text : b ≡ 32 ∷ (written t ++ k)
  valid : Valid t
  shallow : depth t ≤ n
  ends : Ended k

module _ (total n : ℕ) (ih : (rest : List ℕ) (t : Spelled) (k : List ℕ) → parse total n rest ≡ Ok (t, k) → Sound n rest t k) where
  part_sound : (b : List ℕ) (t : Spelled) (k : List ℕ) → Ended b → part total (parse total n) b ≡ Ok (t, k) → Behind n b t k
  part_sound b t k e p =
      let (r, g, q) = after_inv (gap total b) (parse total n) (t, k) p in
      let s = ih r t k q in
      record {
        text = gap_inv total b r e g ∙ ap (λ x. 32 ∷ x) s.text;
        valid = s.valid;
        shallow = s.shallow;
        ends = s.ends;
      }

  one_sound : (b : List ℕ) (make : Spelled → Spelled) (t : Spelled) (k : List ℕ) → Ended b → one_part total (parse total n) b make ≡ Ok (t, k) → (u : Spelled) × (make u ≡ t) × Behind n b u k
  one_sound b make t k e p =
      let (x, q, o) = after_inv (part total (parse total n) b) (λ y. Ok (make y.0, y.1)) (t, k) p in
      let same = same_ok o in
      (x.0, ap (λ y. y.0) same, part_sound b x.0 k e (q ∙ ap (λ m. Ok (x.0, m)) (ap (λ y. y.1) same)))

  two_sound : (b : List ℕ) (make : Spelled → Spelled → Spelled) (t : Spelled) (k : List ℕ) → Ended b → two_parts total (parse total n) b make ≡ Ok (t, k) → (u : Spelled) × (m : List ℕ) × (v : Spelled) × (make u v ≡ t) × Behind n b u m × Behind n m v k
  two_sound b make t k e p =
      let (x, q, o) = after_inv (part total (parse total n) b) (λ y. one_part total (parse total n) y.1 (make y.0)) (t, k) p in
      let left = part_sound b x.0 x.1 e q in
      let (v, same, right) = one_sound x.1 (make x.0) t k left.ends o in
      (x.0, x.1, v, same, left, right)

  link_sound : (b : List ℕ) (make : List ℕ → Spelled → Spelled) (t : Spelled) (k : List ℕ) → Ended b → linked total (parse total n) b make ≡ Ok (t, k) → (r : List ℕ) × (m : List ℕ) × (u : Spelled) × (make r u ≡ t) × Legal r × (b ≡ 32 ∷ (r ++ m)) × Behind n m u k
  link_sound b make t k e p =
      let (x, g, q) = after_inv (gap total b) (λ j. after (name_at total j (first_word j)) (λ r. one_part total (parse total n) (after_word j) (make r))) (t, k) p in
      let (r, w, o) = after_inv (name_at total x (first_word x)) (λ r. one_part total (parse total n) (after_word x) (make r)) (t, k) q in
      let (is, none) = named_inv (place total x) (first_word x) r (flaw 0 (first_word x)) w in
      let (u, same, right) = one_sound (after_word x) (make r) t k (after_ended x) o in
      (r, after_word x, u, same, subst Legal (sym is) (legal_when (first_word x) none), gap_inv total b x e g ∙ ap (λ y. 32 ∷ y) (word_whole x ∙ ap (λ y. y ++ after_word x) (sym is)), right)

  -- the text of a term that begins with the word w, with b behind it
  begins : (rest w b : List ℕ) → w ≡ first_word rest → rest ≡ w ++ after_word rest
  begins rest w b e = word_whole rest ∙ ap (λ y. y ++ after_word rest) (sym e)

  operator_sound : (op : Operator) (rest : List ℕ) (t : Spelled) (k : List ℕ) → first_word rest ≡ symbol op ∷ [] → operated total (parse total n) (after_word rest) op ≡ Ok (t, k) → Sound (suc n) rest t k
  operator_sound Top rest t k w p =
      let same = same_ok p in
      let is : top ≡ t = ap (λ y. y.0) same in
      let at : after_word rest ≡ k = ap (λ y. y.1) same in
      subst (λ u. Sound (suc n) rest u k) is (record { text = word_whole rest ∙ ap (λ y. y ++ after_word rest) w ∙ ap (λ y. 42 ∷ y) at; valid = tt; shallow = omega arith; ends = subst Ended at (after_ended rest) })
  operator_sound Bottom rest t k w p =
      let same = same_ok p in
      let is : bottom ≡ t = ap (λ y. y.0) same in
      let at : after_word rest ≡ k = ap (λ y. y.1) same in
      subst (λ u. Sound (suc n) rest u k) is (record { text = word_whole rest ∙ ap (λ y. y ++ after_word rest) w ∙ ap (λ y. 33 ∷ y) at; valid = tt; shallow = omega arith; ends = subst Ended at (after_ended rest) })
  operator_sound Not rest t k w p =
      let (u, is, h) = one_sound (after_word rest) neg t k (after_ended rest) p in
      subst (λ u. Sound (suc n) rest u k) is (record { text = word_whole rest ∙ ap (λ y. y ++ after_word rest) w ∙ ap (λ y. 45 ∷ y) h.text; valid = h.valid; shallow = omega (arith, h.shallow); ends = h.ends })
  operator_sound (Joining j) rest t k w p =
      let (u, m, v, is, l, r) = two_sound (after_word rest) (joins j) t k (after_ended rest) p in
      let tail : (32 ∷ (written u ++ m)) ≡ (32 ∷ (written u ++ 32 ∷ written v)) ++ k = ap (λ y. 32 ∷ (written u ++ y)) r.text ∙ ap (λ y. 32 ∷ y) (sym (append_assoc (written u) (32 ∷ written v) k)) in
      subst (λ u. Sound (suc n) rest u k) is (record {
        text = word_whole rest ∙ ap (λ y. y ++ after_word rest) w ∙ ap (λ y. symbol (Joining j) ∷ y) (l.text ∙ tail) ∙ ap (λ y. y ++ k) (sym (join_text j u v));
        valid = join_valid j u v l.valid r.valid;
        shallow = omega (arith, l.shallow, r.shallow, join_depth j u v);
        ends = r.ends;
      })
  operator_sound (Quantifying q) rest t k w p =
      let (r, m, u, is, n', b, h) = link_sound (after_word rest) (quantifies q) t k (after_ended rest) p in
      let tail : (32 ∷ (r ++ m)) ≡ (32 ∷ (r ++ 32 ∷ written u)) ++ k = ap (λ y. 32 ∷ (r ++ y)) h.text ∙ ap (λ y. 32 ∷ y) (sym (append_assoc r (32 ∷ written u) k)) in
      subst (λ u. Sound (suc n) rest u k) is (record {
        text = word_whole rest ∙ ap (λ y. y ++ after_word rest) w ∙ ap (λ y. symbol (Quantifying q) ∷ y) (b ∙ tail) ∙ ap (λ y. y ++ k) (sym (link_text q r u));
        valid = link_valid q r u n' h.valid;
        shallow = omega (arith, h.shallow, link_depth q r u);
        ends = h.ends;
      })

  word_sound : (m : Option Word) (rest : List ℕ) (t : Spelled) (k : List ℕ) → meant (first_word rest) ≡ m → parts total (parse total n) rest m ≡ Ok (t, k) → Sound (suc n) rest t k
  word_sound None rest t k e p = cc
  word_sound (Some (name w)) rest t k e p =
      let (x, q, o) = after_inv (named (place total rest) w (flaw 0 w)) (λ y. Ok (class y, after_word rest)) (t, k) p in
      let (is, none) = named_inv (place total rest) w x (flaw 0 w) q in
      let same = same_ok o in
      let at : after_word rest ≡ k = ap (λ y. y.1) same in
      let whole : w ≡ first_word rest = spells (first_word rest) (name w) e in
      subst (λ u. Sound (suc n) rest u k) (ap (λ y. y.0) same) (record {
        text = begins rest x k (is ∙ whole) ∙ ap (λ y. x ++ y) at;
        valid = subst Legal (sym is) (legal_when w none);
        shallow = omega arith;
        ends = subst Ended at (after_ended rest);
      })
  word_sound (Some (operator op)) rest t k e p = operator_sound op rest t k (spells (first_word rest) (operator op) e) p
  word_sound (Some (reader m i)) rest t k e p =
      let (w, low, high) = spells (first_word rest) (reader m i) e in
      let (u, is, h) = one_sound (after_word rest) (modalizes m i) t k (after_ended rest) p in
      subst (λ u. Sound (suc n) rest u k) is (record {
        text = word_whole rest ∙ ap (λ y. y ++ after_word rest) w ∙ ap (λ y. modal_symbol m ∷ (48 + i) ∷ y) h.text ∙ ap (λ y. y ++ k) (sym (modal_text m i u));
        valid = modal_valid m i u low high h.valid;
        shallow = omega (arith, h.shallow, modal_depth m i u);
        ends = h.ends;
      })

pub parse_sound : (total n : ℕ) (rest : List ℕ) (t : Spelled) (k : List ℕ) → parse total n rest ≡ Ok (t, k) → Sound n rest t k
unfolding parse
parse_sound total zero rest t k e = cc
parse_sound total (suc n) rest t k e = word_sound total n (parse_sound total n) (meant (first_word rest)) rest t k refl e

-- completeness

-- a written term begins with a byte that is no space
written_starts : (t : Spelled) (k : List ℕ) → Valid t → Starts (written t ++ k)
written_starts top k v = refl
written_starts bottom k v = refl
written_starts (class n) k v = name_starts n v
  where
    name_starts : (n : List ℕ) → Legal n → Starts (n ++ k)
    name_starts [] l = absurd (omega (arith, l.some))
    name_starts (b ∷ bs) l = follow_solid b (l.rest 0 (omega arith))
written_starts (neg t) k v = refl
written_starts (and t u) k v = refl
written_starts (or t u) k v = refl
written_starts (exists r t) k v = refl
written_starts (forall r t) k v = refl
written_starts (may i t) k v = refl
written_starts (must i t) k v = refl

module _ (total n : ℕ) where
  -- behind the word w, which means m
  parse_word : (w k : List ℕ) (m : Option Word) → Solid w → Ended k → meant w ≡ m → parse total (suc n) (w ++ k) ≡ parts total (parse total n) (w ++ k) m
  unfolding parse
  parse_word w k m s e means = ap (parts total (parse total n) (w ++ k)) (ap meant (first_is w k s e) ∙ means)

  parse_operator : (op : Operator) (k : List ℕ) → Ended k → parse total (suc n) (symbol op ∷ k) ≡ operated total (parse total n) k op
  parse_operator op k e =
      parse_word (symbol op ∷ []) k (Some (operator op)) (solid op, tt) e (means_operator op) ∙ ap (λ b. operated total (parse total n) b op) (after_is (symbol op ∷ []) k (solid op, tt) e)
    where
      solid : (op : Operator) → eqb (symbol op) 32 ≡ false
      solid Top = refl
      solid Bottom = refl
      solid Not = refl
      solid (Joining And) = refl
      solid (Joining Or) = refl
      solid (Quantifying Exists) = refl
      solid (Quantifying Forall) = refl

  parse_reader : (m : Modality) (i : ℕ) (k : List ℕ) → 1 ≤ i → i ≤ 8 → Ended k → parse total (suc n) (modal_symbol m ∷ (48 + i) ∷ k) ≡ one_part total (parse total n) k (modalizes m i)
  parse_reader m i k l h e =
      let solid : Solid (modal_symbol m ∷ (48 + i) ∷ []) = (first m, (ne_eqb (48 + i) 32 (omega arith), tt)) in
      parse_word (modal_symbol m ∷ (48 + i) ∷ []) k (Some (reader m i)) solid e (means_reader m i l h) ∙ ap (λ b. one_part total (parse total n) b (modalizes m i)) (after_is (modal_symbol m ∷ (48 + i) ∷ []) k solid e)
    where
      first : (m : Modality) → eqb (modal_symbol m) 32 ≡ false
      first May = refl
      first Must = refl

  part_is : (t : Spelled) (k : List ℕ) → Valid t → parse total n (written t ++ k) ≡ Ok (t, k) → part total (parse total n) (32 ∷ (written t ++ k)) ≡ Ok (t, k)
  part_is t k v p = ap (λ r. after r (parse total n)) (gap_starts total (written t ++ k) (written_starts t k v)) ∙ p

  one_is : (make : Spelled → Spelled) (t : Spelled) (k : List ℕ) → Valid t → parse total n (written t ++ k) ≡ Ok (t, k) → one_part total (parse total n) (32 ∷ (written t ++ k)) make ≡ Ok (make t, k)
  one_is make t k v p = ap (λ r. after r (λ y. Ok (make y.0, y.1))) (part_is t k v p)

  two_is : (make : Spelled → Spelled → Spelled) (t u : Spelled) (k : List ℕ) → Valid t → Valid u → parse total n (written t ++ 32 ∷ (written u ++ k)) ≡ Ok (t, 32 ∷ (written u ++ k)) → parse total n (written u ++ k) ≡ Ok (u, k) → two_parts total (parse total n) (32 ∷ (written t ++ 32 ∷ (written u ++ k))) make ≡ Ok (make t u, k)
  two_is make t u k v w p q =
      ap (λ r. after r (λ y. one_part total (parse total n) y.1 (make y.0))) (part_is t (32 ∷ (written u ++ k)) v p) ∙ one_is (make t) u k w q

  name_solid : (r : List ℕ) (b : List ℕ) → Legal r → Starts (r ++ b)
  name_solid [] b l = absurd (omega (arith, l.some))
  name_solid (c ∷ cs) b l = follow_solid c (l.rest 0 (omega arith))

  link_is : (make : List ℕ → Spelled → Spelled) (r : List ℕ) (t : Spelled) (k : List ℕ) → Legal r → Valid t → parse total n (written t ++ k) ≡ Ok (t, k) → linked total (parse total n) (32 ∷ (r ++ 32 ∷ (written t ++ k))) make ≡ Ok (make r t, k)
  link_is make r t k l v p =
      let b : List ℕ = 32 ∷ (written t ++ k) in
      let s = legal_solid r l in
      ap (λ g. after g (λ j. after (name_at total j (first_word j)) (λ w. one_part total (parse total n) (after_word j) (make w)))) (gap_starts total (r ++ b) (name_solid r b l))
      ∙ ap (λ w. after (name_at total (r ++ b) w) (λ w. one_part total (parse total n) (after_word (r ++ b)) (make w))) (first_is r b s refl)
      ∙ ap (λ f. after (named (place total (r ++ b)) r f) (λ w. one_part total (parse total n) (after_word (r ++ b)) (make w))) (when_legal r l)
      ∙ ap (λ y. one_part total (parse total n) y (make r)) (after_is r b s refl) ∙ one_is (make r) t k v p

  parse_name : (w k : List ℕ) → Legal w → Ended k → parse total (suc n) (w ++ k) ≡ Ok (class w, k)
  parse_name [] k l e = absurd (omega (arith, l.some))
  parse_name (b ∷ bs) k l e =
      let w : List ℕ = b ∷ bs in
      let s = legal_solid w l in
      parse_word w k (Some (name w)) s e (means_name b bs l.first) ∙ ap (λ y. only_class (place total (w ++ k)) w y) (after_is w k s e)
      ∙ ap (λ f. after (named (place total (w ++ k)) w f) (λ y. Ok (class y, k))) (when_legal w l)

-- two parts and the space between them, with k behind
grouped : (a b k : List ℕ) → (a ++ 32 ∷ b) ++ k ≡ a ++ 32 ∷ (b ++ k)
grouped a b k = append_assoc a (32 ∷ b) k

pub parse_complete : (t : Spelled) (total n : ℕ) (k : List ℕ) → Valid t → depth t ≤ n → Ended k → parse total n (written t ++ k) ≡ Ok (t, k)
parse_complete t total zero k v d e = absurd (deep t d)
  where
    deep : (t : Spelled) → depth t ≤ 0 → ⊥
    deep top d = omega arith
    deep bottom d = omega arith
    deep (class n) d = omega arith
    deep (neg t) d = omega arith
    deep (and t u) d = omega arith
    deep (or t u) d = omega arith
    deep (exists r t) d = omega arith
    deep (forall r t) d = omega arith
    deep (may i t) d = omega arith
    deep (must i t) d = omega arith
parse_complete top total (suc n) k v d e = parse_operator total n Top k e
parse_complete bottom total (suc n) k v d e = parse_operator total n Bottom k e
parse_complete (class w) total (suc n) k v d e = parse_name total n w k v e
parse_complete (neg t) total (suc n) k v d e =
    parse_operator total n Not (32 ∷ (written t ++ k)) refl ∙ one_is total n neg t k v (parse_complete t total n k v (omega arith) e)
parse_complete (and t u) total (suc n) k (v, w) d e =
    ap (λ y. parse total (suc n) (38 ∷ 32 ∷ y)) (grouped (written t) (written u) k) ∙ parse_operator total n (Joining And) (32 ∷ (written t ++ 32 ∷ (written u ++ k))) refl
    ∙ two_is total n and t u k v w (parse_complete t total n (32 ∷ (written u ++ k)) v (omega arith) refl) (parse_complete u total n k w (omega arith) e)
parse_complete (or t u) total (suc n) k (v, w) d e =
    ap (λ y. parse total (suc n) (124 ∷ 32 ∷ y)) (grouped (written t) (written u) k) ∙ parse_operator total n (Joining Or) (32 ∷ (written t ++ 32 ∷ (written u ++ k))) refl
    ∙ two_is total n or t u k v w (parse_complete t total n (32 ∷ (written u ++ k)) v (omega arith) refl) (parse_complete u total n k w (omega arith) e)
parse_complete (exists r t) total (suc n) k (l, v) d e =
    ap (λ y. parse total (suc n) (43 ∷ 32 ∷ y)) (grouped r (written t) k) ∙ parse_operator total n (Quantifying Exists) (32 ∷ (r ++ 32 ∷ (written t ++ k))) refl
    ∙ link_is total n exists r t k l v (parse_complete t total n k v (omega arith) e)
parse_complete (forall r t) total (suc n) k (l, v) d e =
    ap (λ y. parse total (suc n) (61 ∷ 32 ∷ y)) (grouped r (written t) k) ∙ parse_operator total n (Quantifying Forall) (32 ∷ (r ++ 32 ∷ (written t ++ k))) refl
    ∙ link_is total n forall r t k l v (parse_complete t total n k v (omega arith) e)
parse_complete (may i t) total (suc n) k (l, h, v) d e =
    parse_reader total n May i (32 ∷ (written t ++ k)) l h refl ∙ one_is total n (may i) t k v (parse_complete t total n k v (omega arith) e)
parse_complete (must i t) total (suc n) k (l, h, v) d e =
    parse_reader total n Must i (32 ∷ (written t ++ k)) l h refl ∙ one_is total n (must i) t k v (parse_complete t total n k v (omega arith) e)

-- the whole text

begun_inv : (s k : List ℕ) → begun s ≡ Ok k → s ≡ k
begun_inv [] k e = cc
begun_inv (b ∷ bs) k e = grind (arith, nat_tests)

begun_starts : (s : List ℕ) → Starts s → begun s ≡ Ok s
begun_starts [] n = absurd n
begun_starts (b ∷ bs) n = cond-false (eqb b 32) _ (Ok (b ∷ bs)) n

ended_inv : (total : ℕ) (t u : Spelled) (k : List ℕ) → ended total t k ≡ Ok u → (t ≡ u) × (k ≡ [])
ended_inv total t u [] e = (same_ok e, refl)
ended_inv total t u (s ∷ []) e = cc
ended_inv total t u (s ∷ b ∷ bs) e = grind (arith, nat_tests)

pub reading_sound : (s : List ℕ) (t : Spelled) → reading s ≡ Ok t → Readable t × (written t ≡ s)
reading_sound s t e =
    let (k, b, r) = after_inv (begun s) (λ k. after (parse (length s) 32 k) (λ p. ended (length s) p.0 p.1)) t e in
    let (p, q, o) = after_inv (parse (length s) 32 k) (λ p. ended (length s) p.0 p.1) t r in
    let (same, none) = ended_inv (length s) p.0 t p.1 o in
    let h = parse_sound (length s) 32 k p.0 p.1 q in
    let all : s ≡ written p.0 = begun_inv s k b ∙ h.text ∙ ap (λ y. written p.0 ++ y) none ∙ append-nil (written p.0) in
    (subst Readable same (record { valid = h.valid; shallow = h.shallow }), sym (all ∙ ap written same))

pub reading_complete : (t : Spelled) → Readable t → reading (written t) ≡ Ok t
reading_complete t r =
    let s : List ℕ = written t in
    let starts = subst Starts (append-nil s) (written_starts t [] r.valid) in
    ap (λ b. after b (λ k. after (parse (length s) 32 k) (λ p. ended (length s) p.0 p.1))) (begun_starts s starts)
    ∙ ap (λ k. after (parse (length s) 32 k) (λ p. ended (length s) p.0 p.1)) (sym (append-nil s))
    ∙ ap (λ q. after q (λ p. ended (length s) p.0 p.1)) (parse_complete t (length s) 32 [] r.valid r.shallow tt)
