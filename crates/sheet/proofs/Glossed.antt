-- A class gets its gloss, and what that makes of a sheet. Assumes nothing.
use Rattle.std.proofs.Common.{◌≡◌, ℕ, ◌<◌, ◌≤◌, Bool, true, false, cond, ◌&&◌, ◌||◌, eqb, List, [], map, length, is_some, Some, None, Ok, Err, Option, Result, sym, refl, ap, ◌∙◌, subst, ⊎_elim, arith}
use Rattle.std.proofs.lemmas.Bool.{cases_lt, cond-true, cond-false, ne_eqb}
use Rattle.std.specs.List.{list_any}
use Rattle.std.specs.Option.{option_map}
use Rattle.std.specs.Str.{bytes_eq}
use Rattle.distinct.specs.Numbering.{number, known}
use Rattle.glossary.proofs.Anys.{any_same}
use Rattle.glossary.proofs.Circles.{within_is, follows_same, grown_follows, grown_loopless, grown_bounded}
use Rattle.glossary.proofs.Numbered.{numbered_classes}
use Rattle.glossary.specs.Flags.{reached, grown}
use Rattle.glossary.specs.Refers.{classes_of, mentioned, refers_within}
use Rattle.names.specs.Refusal.{at}
use Rattle.names.specs.declared.refusals.Fault.{Fault}
use Rattle.names.specs.declared.refusals.Refusal.TheVariants.{GlossedAlready, Circle}
use Rattle.sheet.proofs.Chains.{gloss_is}
use Rattle.sheet.proofs.Finals.{Each, Has, first_has, all_has, names_front, number_late, below_all, circle_same, reach_same}
use Rattle.sheet.proofs.Kept.{kept_fair, kept_content, gloss_stays}
use Rattle.sheet.specs.Content.{Content, defined}
use Rattle.sheet.specs.Fair.{Fair}
use Rattle.sheet.specs.Outcome.{mentions, circular, glossed, glossing}
use Rattle.sheet.specs.Store.{Store, content_of}
use Rattle.tables.proofs.Numbers.{front_number}
use Rattle.tables.specs.Vocabulary.{with_name, with_names, class_names}
use Rattle.terms.specs.Nodes.{tree}
use Rattle.terms.specs.Parse.{reading}
use Rattle.terms.specs.Term.{Term, Spelled}
use Rattle.vocabulary.specs.Entries.{GlossAt}
use Rattle.vocabulary.specs.Held.{Held, InOrder, Grew, lexicon}
use Rattle.vocabulary.specs.Lexicon.{with_class, with_term, term_of}
use Rattle.vocabulary.specs.Placing.{OfGloss, thus, in_field, name_in, term_in, gloss_words}
use Rattle.vocabulary.specs.declared.placed.PlacedGloss.{PlacedGloss}

-- a gloss where something is, or none is

some_mapped : {X Y : Type 0} (f : X → Y) (o : Option X) → is_some (option_map f o) ≡ is_some o
some_mapped f None = refl
some_mapped f (Some x) = refl

none_mentioned : (f : ℕ → Term ℕ) (o : Option ℕ) → is_some o ≡ false → mentioned (option_map f o) ≡ []
none_mentioned f None e = refl
none_mentioned f (Some g) e = absurd (cc)

mapped_cond : (b : Bool) (f f' : ℕ → Term ℕ) (g : ℕ) (o : Option ℕ) → option_map f o ≡ option_map f' o → option_map f (cond b (Some g) o) ≡ cond b (Some (f g)) (option_map f' o)
mapped_cond true f f' g o e = refl
mapped_cond false f f' g o e = e

mentioned_cond : (b : Bool) (u : Term ℕ) (o : Option (Term ℕ)) (ds : List ℕ) → classes_of u ≡ ds → mentioned (cond b (Some u) o) ≡ cond b ds (mentioned o)
mentioned_cond true u o ds e = e
mentioned_cond false u o ds e = refl

low_cond : (b : Bool) (g k n : ℕ) (o : Option ℕ) → cond b (Some g) o ≡ Some k → g < n → (o ≡ Some k → k < n) → k < n
low_cond true g k n o e l f = let same : g ≡ k = cc in omega arith
low_cond false g k n o e l f = f e

module _ (s : Store) (fair : Fair s) where
  -- a class that is not known has no gloss, and so refers to none
  bare : (c d : ℕ) → length s.held.book.classes ≤ c → s.refers c d ≡ false
  bare c d l =
      fair.follows c d
      ∙ ap (list_any (λ e. eqb e d || s.refers e d)) (none_mentioned (tree s.held.book.nodes) (s.gloss c) (fair.plain c l))

  -- the code's tests are those of the outcome

  test_is : (w : List ℕ) (t : Spelled) → list_any (λ v. bytes_eq v w || s.refers (number s.held.book.classes v) (number s.held.book.classes w)) (class_names t) ≡ circular (content_of s) w t
  test_is w t =
      let cs = s.held.book.classes in
      let r = fair.held.room.classes in
      let l = fair.held.class_limit in
      any_same (λ v. bytes_eq v w || s.refers (number cs v) (number cs w)) (λ v. bytes_eq v w || refers_within 64 (mentions (content_of s)) (number cs v) (number cs w)) (class_names t)
      (λ v. ap (λ b. bytes_eq v w || b) (sym (within_is (mentions (content_of s)) s.refers fair.follows (length cs) fair.loopless fair.bounded 64 (number cs v) (number cs w) (omega arith))))

  already : (w : List ℕ) → glossed (content_of s) w ≡ is_some (s.gloss (number s.held.book.classes w))
  already w = some_mapped (tree s.held.book.nodes) (s.gloss (number s.held.book.classes w))

  -- the outcome's test is the one on the final numbers
  pub circular_is : (w : List ℕ) (t : Spelled) → circular (content_of s) w t ≡ reached s.refers (map (number (with_names (with_name s.held.book.classes w) (class_names t))) (class_names t)) (number (with_names (with_name s.held.book.classes w) (class_names t)) w)
  circular_is w t =
      let cs = s.held.book.classes in
      let ws = class_names t in
      sym (circle_same s.refers cs (with_names (with_name cs w) ws) (names_front cs w ws) bare fair.bounded w ws (first_has cs w ws) (all_has (with_name cs w) ws) ∙ test_is w t)

  -- a class without a gloss mentions nothing under its final number
  unglossed : (w : List ℕ) (ws : List (List ℕ)) → glossed (content_of s) w ≡ false → mentions (content_of s) (number (with_names (with_name s.held.book.classes w) ws) w) ≡ []
  unglossed w ws e =
      let cs = s.held.book.classes in
      let ys = with_names (with_name cs w) ws in
      let none : (c : ℕ) → is_some (s.gloss c) ≡ false → mentions (content_of s) c ≡ [] = λ c f. none_mentioned (tree s.held.book.nodes) (s.gloss c) f in
      ⊎_elim
      (λ old. ap (mentions (content_of s)) (front_number cs ys w (names_front cs w ws) old) ∙ none (number cs w) (sym (already w) ∙ e))
      (λ new. none (number ys w) (fair.plain (number ys w) (number_late cs ys w (names_front cs w ws) (first_has cs w ws) new)))
      (cases_lt (number cs w) (length cs))

-- A gloss of class w by t was asked for, and w has none. The code's tests told `had` and `circle`.
pub record Asked (s : Store) (name text w : List ℕ) (t : Spelled) (had circle : Bool) : Type 0 where
  pub fair : Fair s
  pub named : name_in 2 name ≡ Ok w
  pub read : reading text ≡ Ok t
  pub has : had ≡ is_some (s.gloss (number s.held.book.classes w))
  pub found : circle ≡ list_any (λ v. bytes_eq v w || s.refers (number s.held.book.classes v) (number s.held.book.classes w)) (class_names t)
  pub plain : had ≡ false

-- with the class c glossed by node g, tables s of which the vocabulary is now h have these glosses and flags
pub record Made (s : Store) (h : Held) (t : Spelled) (c g : ℕ) (gloss : ℕ → Option ℕ) (refers : ℕ → ℕ → Bool) : Type 0 where
  pub glosses : (e : ℕ) → gloss e ≡ cond (eqb e c) (Some g) (s.gloss e)
  pub passed : (e f : ℕ) → refers e f ≡ (s.refers e f || ((eqb e c || s.refers e c) && list_any (λ v. known h.book.classes v && (eqb (number h.book.classes v) f || s.refers (number h.book.classes v) f)) (class_names t)))

module _ {s : Store} {name text w : List ℕ} {t : Spelled} {had circle : Bool} (asked : Asked s name text w t had circle) where
  abbrev placing : Result OfGloss Fault → Result Content Fault
  placing r = thus r (λ p. Ok (defined p.words p.class p.term (content_of s)))

  abbrev tests : List ℕ → Spelled → Result Content Fault
  tests w t = cond (glossed (content_of s) w) (Err (at 2 GlossedAlready)) (cond (circular (content_of s) w t) (Err (at 3 Circle)) (placing (gloss_words (content_of s).words w t)))

  read_in : term_in 3 text ≡ Ok t
  read_in = ap (in_field 3) asked.read

  first : glossed (content_of s) w ≡ false
  first = already s asked.fair w ∙ sym asked.has ∙ asked.plain

  circular_told : circle ≡ circular (content_of s) w t
  circular_told = asked.found ∙ test_is s asked.fair w t

  tested : glossing (content_of s) name text ≡ cond (circular (content_of s) w t) (Err (at 3 Circle)) (placing (gloss_words (content_of s).words w t))
  tested =
      ap (λ r. thus r (λ w. thus (term_in 3 text) (tests w))) asked.named
      ∙ ap (λ r. thus r (tests w)) read_in
      ∙ cond-false (glossed (content_of s) w) _ _ first

  pub asked_circle : circle ≡ true → glossing (content_of s) name text ≡ Err (at 3 Circle)
  asked_circle e = tested ∙ cond-true (circular (content_of s) w t) _ _ (sym circular_told ∙ e)

  module _ (free : circle ≡ false) where
    -- what the vocabulary came to
    came : (r : Result OfGloss Fault) → thus (term_in 3 text) (gloss_words (lexicon s.held) w) ≡ r → gloss_words (lexicon s.held) w t ≡ r
    came r e = sym (ap (λ q. thus q (gloss_words (lexicon s.held) w)) read_in) ∙ e

    asked_placed : (r : Result OfGloss Fault) → thus (term_in 3 text) (gloss_words (lexicon s.held) w) ≡ r → glossing (content_of s) name text ≡ placing r
    asked_placed r e = tested ∙ cond-false (circular (content_of s) w t) _ _ (sym circular_told ∙ free) ∙ ap placing (came r e)

    pub asked_full : (e : Fault) → thus (term_in 3 text) (gloss_words (lexicon s.held) w) ≡ Err e → glossing (content_of s) name text ≡ Err e
    asked_full e o = asked_placed (Err e) o

    -- the class and the term were placed in h, which has all that there was
    module _ {h : Held} {x : PlacedGloss} {y : OfGloss} (o : thus (term_in 3 text) (gloss_words (lexicon s.held) w) ≡ Ok y) (p : GlossAt x y h) (order : InOrder h) (grew : Grew s.held h) where
      its_words : with_term t (with_class w (content_of s).words) ≡ lexicon h
      its_words = ap (λ o. o.words) (gloss_is (content_of s).words w t y (came (Ok y) o)) ∙ p.words

      its_names : with_names (with_name s.held.book.classes w) (class_names t) ≡ h.book.classes
      its_names = ap (λ k. k.classes) its_words

      its_place : x.class ≡ number h.book.classes w
      its_place =
          sym p.class ∙ sym (ap (λ o. o.class) (gloss_is (content_of s).words w t y (came (Ok y) o)))
          ∙ ap (λ k. number k.classes w) its_words

      its_classes : classes_of (tree h.book.nodes x.term) ≡ map (number h.book.classes) (class_names t)
      its_classes =
          ap classes_of (sym p.term ∙ sym (ap (λ o. o.term) (gloss_is (content_of s).words w t y (came (Ok y) o))) ∙ ap (λ k. term_of k t) its_words)
          ∙ numbered_classes h.book.classes h.book.links t

      has_all : Each (Has h.book.classes) (class_names t)
      has_all = subst (λ ys. Each (Has ys) (class_names t)) its_names (all_has (with_name s.held.book.classes w) (class_names t))

      pub few : length h.book.classes ≤ 64
      few = let r = order.room.classes in let l = order.class_limit in omega arith

      pub class_low : x.class < 64
      class_low = let l = p.class_below in let f = few in omega arith

      module _ {gloss : ℕ → Option ℕ} {refers : ℕ → ℕ → Bool} (made : Made s h t x.class x.term gloss refers) where
        gloss_after : (e : ℕ) → option_map (tree h.book.nodes) (gloss e) ≡ cond (eqb e x.class) (Some (tree h.book.nodes x.term)) (option_map (tree s.held.book.nodes) (s.gloss e))
        gloss_after e =
            ap (option_map (tree h.book.nodes)) (made.glosses e)
            ∙ mapped_cond (eqb e x.class) (tree h.book.nodes) (tree s.held.book.nodes) x.term (s.gloss e) (gloss_stays s.held.book.nodes h.book.nodes grew.nodes (s.gloss e) (asked.fair.glosses e))

        gloss_plain : (e : ℕ) → length h.book.classes ≤ e → is_some (gloss e) ≡ false
        gloss_plain e l =
            let far = p.class_below in
            let other : e ≡ x.class → ⊥ = λ q. omega arith in
            ap is_some (made.glosses e ∙ cond-false (eqb e x.class) (Some x.term) (s.gloss e) (ne_eqb e x.class other))
            ∙ (kept_fair s h asked.fair order grew).plain e l

        pub glossed_fair : Fair (record { held = h; gloss = gloss; refers = refers; lines = s.lines })
        glossed_fair =
            let ys = h.book.classes in
            let c = x.class in
            let ds = map (number ys) (class_names t) in
            let D = mentions (content_of s) in
            let R = s.refers in
            let n = length ys in
            let old = kept_fair s h asked.fair order grew in
            let none : D c ≡ [] = ap D its_place ∙ subst (λ xs. D (number xs w) ≡ []) its_names (unglossed s asked.fair w (class_names t) first) in
            let clear : reached R ds c ≡ false = ap (reached R ds) its_place ∙ subst (λ xs. reached R (map (number xs) (class_names t)) (number xs w) ≡ false) its_names (sym (circular_is s asked.fair w t) ∙ sym circular_told ∙ free) in
            let is : (e f : ℕ) → refers e f ≡ grown R c ds e f = λ e f. made.passed e f ∙ ap (λ b. R e f || ((eqb e c || R e c) && b)) (reach_same R ys (class_names t) has_all f) in
            record {
              held = order;
              glosses = λ e k q. low_cond (eqb e c) x.term k (length h.book.nodes) (s.gloss e) (sym (made.glosses e) ∙ q) p.term_below (old.glosses e k);
              plain = gloss_plain;
              follows = follows_same (λ e. cond (eqb e c) ds (D e)) (λ e. mentioned (option_map (tree h.book.nodes) (gloss e))) (grown R c ds) refers (grown_follows D R asked.fair.follows n asked.fair.loopless old.bounded c ds none clear) (λ e. ap mentioned (gloss_after e) ∙ mentioned_cond (eqb e c) (tree h.book.nodes x.term) (option_map (tree s.held.book.nodes) (s.gloss e)) ds its_classes) is;
              loopless = λ e. is e e ∙ grown_loopless D R asked.fair.follows n asked.fair.loopless old.bounded c ds none clear e;
              bounded = λ e f l. is e f ∙ grown_bounded D R asked.fair.follows n asked.fair.loopless old.bounded c ds none clear (below_all ys (class_names t) has_all) e f l;
              lines = old.lines;
            }

        glossed_content : content_of (record { held = h; gloss = gloss; refers = refers; lines = s.lines }) ≡ defined (lexicon h) x.class (tree h.book.nodes x.term) (content_of s)
        glossed_content =
            let lines = ap (λ k. k.lines) (kept_content s h asked.fair order grew) in
            λ i. record { words = lexicon h; gloss = λ e. gloss_after e i; lines = lines i }

        pub asked_done : glossing (content_of s) name text ≡ Ok (content_of (record { held = h; gloss = gloss; refers = refers; lines = s.lines }))
        asked_done =
            asked_placed (Ok y) o
            ∙ (λ i. Ok (defined (p.words i) (p.class i) (p.term i) (content_of s)))
            ∙ ap (λ k. Ok k) (sym glossed_content)
