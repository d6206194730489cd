-- What was accepted keeps its number. Assumes nothing.
use Rattle.std.proofs.Common.{◌≡◌, ℕ, Bool, true, false, cond, eqb, List, [], ◌∷◌, ◌++◌, length, is_some, Some, Ok, Err, Option, Result, sym, refl, ap, ◌∙◌, subst, ⊎_elim, arith}
use Rattle.std.proofs.lemmas.Bool.{cases_Bool, cond-false, cond-true, eqb-true, ltb-false}
use Rattle.distinct.specs.Numbering.{number, known}
use Rattle.names.specs.declared.refusals.Fault.{Fault}
use Rattle.sheet.proofs.Chains.{thus_ok, past, passed, same_ok, placed_is, term_is, gloss_is}
use Rattle.sheet.proofs.Histories.{faithful, repeatable}
use Rattle.sheet.specs.Content.{Assertion, stated, tied, Content, with_line}
use Rattle.sheet.specs.History.{Call, gloss, state, tie, Event, Leads, nothing, next, outcome, Keeps, Faithful, Repeatable, Lasting}
use Rattle.sheet.specs.Outcome.{Told, glossed, circular, glossing, stating, tying}
use Rattle.tables.proofs.Numbers.{with_front, with_known, all_front, front_refl, front_trans, front_number, number_below, number_new}
use Rattle.tables.specs.Entry.{Front}
use Rattle.tables.specs.Texts.{parts}
use Rattle.tables.specs.Vocabulary.{with_name, with_names, class_names, link_names}
use Rattle.terms.specs.Term.{Term, Spelled}
use Rattle.vocabulary.specs.Lexicon.{Lexicon, with_class, with_link, with_item, with_term}
use Rattle.vocabulary.specs.Placing.{OfStatement, OfTie, name_in, term_in, place_if, place_link, place_item, place_term, gloss_words, state_words, tie_words}

-- a vocabulary that grew

record More (k j : Lexicon) : Type 0 where
  classes : Front k.classes j.classes
  links : Front k.links j.links
  items : Front k.items j.items
  terms : Front k.terms j.terms

more_trans : (k j l : Lexicon) → More k j → More j l → More k l
more_trans k j l m n =
    record { classes = front_trans _ _ _ m.classes n.classes; links = front_trans _ _ _ m.links n.links; items = front_trans _ _ _ m.items n.items; terms = front_trans _ _ _ m.terms n.terms }

more_class : (w : List ℕ) (k : Lexicon) → More k (with_class w k)
more_class w k = record { classes = with_front k.classes w; links = front_refl k.links; items = front_refl k.items; terms = front_refl k.terms }

more_link : (w : List ℕ) (k : Lexicon) → More k (with_link w k)
more_link w k = record { classes = front_refl k.classes; links = with_front k.links w; items = front_refl k.items; terms = front_refl k.terms }

more_item : (w : List ℕ) (k : Lexicon) → More k (with_item w k)
more_item w k = record { classes = front_refl k.classes; links = front_refl k.links; items = with_front k.items w; terms = front_refl k.terms }

more_term : (t : Spelled) (k : Lexicon) → More k (with_term t k)
more_term t k = record { classes = all_front k.classes (class_names t); links = all_front k.links (link_names t); items = front_refl k.items; terms = all_front k.terms (parts t) }

-- what was placed is what was to be placed

placed_more : (b : Bool) (e : Fault) (k i j : Lexicon) → place_if b e i ≡ Ok j → More k i → More k j
placed_more b e k i j h m = subst (More k) (placed_is b e i j h) m

term_more : (t : Spelled) (k j : Lexicon) → place_term t k ≡ Ok j → More k j
term_more t k j h = subst (More k) (term_is t k j h) (more_term t k)

state_more : (k : Lexicon) (item term : List ℕ) (room : Bool) (y : OfStatement) → state_words k item term room ≡ Ok y → More k y.words
state_more k item term room y e =
    let (a, _, e₁) = thus_ok (name_in 2 item) _ y e in
    let (t, _, e₂) = thus_ok (term_in 3 term) _ y e₁ in
    let (i, p, e₃) = thus_ok (place_item 2 a k) _ y e₂ in
    let (j, q, e₄) = thus_ok (place_term t i) _ y e₃ in
    subst (λ x. More k x.words) (same_ok _ y (passed _ _ y room e₄).1) (more_trans k i j (placed_more _ _ k (with_item a k) i p (more_item a k)) (term_more t i j q))

tie_more : (k : Lexicon) (link from to : List ℕ) (room : Bool) (y : OfTie) → tie_words k link from to room ≡ Ok y → More k y.words
tie_more k link from to room y e =
    let (l, _, e₁) = thus_ok (name_in 2 link) _ y e in
    let (a, _, e₂) = thus_ok (name_in 3 from) _ y e₁ in
    let (b, _, e₃) = thus_ok (name_in 4 to) _ y e₂ in
    let (h, p, e₄) = thus_ok (place_link 2 l k) _ y e₃ in
    let (i, q, e₅) = thus_ok (place_item 3 a h) _ y e₄ in
    let (j, r, e₆) = thus_ok (place_item 4 b i) _ y e₅ in
    subst (λ x. More k x.words) (same_ok _ y (passed _ _ y room e₆).1)
    (more_trans k h j (placed_more _ _ k (with_link l k) h p (more_link l k)) (more_trans h i j (placed_more _ _ h (with_item a h) i q (more_item a h)) (placed_more _ _ i (with_item b i) j r (more_item b i))))

-- a line more

line_keeps : (k : Content) (l : Lexicon) (x : Assertion) → More k.words l → Keeps k (with_line l x k)
line_keeps k l x m =
    record { classes = m.classes; links = m.links; items = m.items; terms = m.terms; lines = (x ∷ [], refl); glosses = λ c t e. e }

state_keeps : (k j : Content) (item term : List ℕ) → stating k item term ≡ Ok j → Keeps k j
state_keeps k j item term e =
    let (p, o, e₁) = thus_ok (state_words k.words item term _) _ j e in
    subst (Keeps k) (same_ok _ j e₁) (line_keeps k p.words (stated p.item p.term) (state_more k.words item term _ p o))

tie_keeps : (k j : Content) (link from to : List ℕ) → tying k link from to ≡ Ok j → Keeps k j
tie_keeps k j link from to e =
    let (p, o, e₁) = thus_ok (tie_words k.words link from to _) _ j e in
    subst (Keeps k) (same_ok _ j e₁) (line_keeps k p.words (tied p.link p.from p.to) (tie_more k.words link from to _ p o))

-- a gloss more

-- the first name of a line has the number that it would have
first_number : (xs : List (List ℕ)) (w : List ℕ) (ws : List (List ℕ)) → number (with_names (with_name xs w) ws) w ≡ number xs w
first_number xs w ws =
    front_number (with_name xs w) (with_names (with_name xs w) ws) w (all_front (with_name xs w) ws) (with_known xs w)
    ∙ ⊎_elim
    (λ t. ap (λ ys. number ys w) (cond-true (known xs w) xs (xs ++ w ∷ []) t))
    (λ f.
    let far = ltb-false (number xs w) (length xs) f in
    let near = number_below xs w in
    let last : length xs ≡ number xs w = omega arith in
    ap (λ ys. number ys w) (cond-false (known xs w) xs (xs ++ w ∷ []) f) ∙ number_new xs w f ∙ last)
    (cases_Bool (known xs w))

-- a class that has a gloss is another than one that has none
kept_gloss : (g : ℕ → Option (Term ℕ)) (n : ℕ) (u : Term ℕ) → is_some (g n) ≡ false → (c : ℕ) (t : Term ℕ) → g c ≡ Some t → cond (eqb c n) (Some u) (g c) ≡ Some t
kept_gloss g n u none c t e =
    ⊎_elim
    (λ h. let m = ap is_some (sym e ∙ ap g (eqb-true c n h)) in let b : true ≡ false = m ∙ none in absurd (cc))
    (λ h. cond-false (eqb c n) (Some u) (g c) h ∙ e)
    (cases_Bool (eqb c n))

gloss_keeps : (k j : Content) (class term : List ℕ) → glossing k class term ≡ Ok j → Keeps k j
gloss_keeps k j class term e =
    let (w, _, e₁) = thus_ok (name_in 2 class) _ j e in
    let (t, _, e₂) = thus_ok (term_in 3 term) _ j e₁ in
    let (plain, e₃) = past _ _ j (glossed k w) e₂ in
    let (_, e₄) = past _ _ j (circular k w t) e₃ in
    let (p, o, e₅) = thus_ok (gloss_words k.words w t) _ j e₄ in
    let m = more_trans k.words (with_class w k.words) (with_term t (with_class w k.words)) (more_class w k.words) (more_term t (with_class w k.words)) in
    let is = gloss_is k.words w t p o in
    let l = ap (λ x. x.words) is in
    let n : number k.words.classes w ≡ p.class = sym (first_number k.words.classes w (class_names t)) ∙ ap (λ x. x.class) is in
    let m' = subst (More k.words) l m in
    subst (Keeps k) (same_ok _ j e₅)
    (record {
      classes = m'.classes;
      links = m'.links;
      items = m'.items;
      terms = m'.terms;
      lines = front_refl k.lines;
      glosses = kept_gloss k.gloss p.class p.term (subst (λ x. is_some (k.gloss x) ≡ false) n plain);
    })

-- any call, and any number of them

call_keeps : (c : Call) (k j : Content) → outcome k c ≡ Ok j → Keeps k j
call_keeps (gloss class term) k j e = gloss_keeps k j class term e
call_keeps (state item term) k j e = state_keeps k j item term e
call_keeps (tie link from to) k j e = tie_keeps k j link from to e

keeps_refl : (k : Content) → Keeps k k
keeps_refl k = record { classes = front_refl k.words.classes; links = front_refl k.words.links; items = front_refl k.words.items; terms = front_refl k.words.terms; lines = front_refl k.lines; glosses = λ c t e. e }

keeps_trans : (k j l : Content) → Keeps k j → Keeps j l → Keeps k l
keeps_trans k j l m n =
    record { classes = front_trans _ _ _ m.classes n.classes; links = front_trans _ _ _ m.links n.links; items = front_trans _ _ _ m.items n.items; terms = front_trans _ _ _ m.terms n.terms; lines = front_trans _ _ _ m.lines n.lines; glosses = λ c t e. n.glosses c t (m.glosses c t e) }

told_keeps : (c : Call) (r : Result (Unit {0}) Fault) (k j : Content) → Told (outcome k c) r k j → Keeps k j
told_keeps c (Ok x) k j e = call_keeps c k j e
told_keeps c (Err d) k j e = subst (Keeps k) (sym e.1) (keeps_refl k)

leads_keep : {k j : Content} {es : List Event} → Leads k es j → Keeps k j
leads_keep (nothing {k}) = keeps_refl k
leads_keep (next {k} {j} {l} {e} {es} t m) = keeps_trans k j l (told_keeps e.call e.answer k j t) (leads_keep m)

lasting : Lasting
lasting es k j m = leads_keep m

pub histories : Faithful × Repeatable × Lasting
histories = (faithful, repeatable, lasting)
