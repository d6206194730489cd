-- The law above the test for circles, for every sheet in order. Assumes nothing.
use Rattle.std.proofs.Common.{◌≡◌, ℕ, ◌<◌, true, eqb, List, map, length, Some, sym, refl, ap, ◌∙◌}
use Rattle.std.proofs.lemmas.Bool.{both_ways, cond-true, cond-false, eq-eqb, ne_eqb}
use Rattle.distinct.specs.Numbering.{number}
use Rattle.glossary.proofs.Circles.{refers_complete, weight_falls}
use Rattle.glossary.proofs.Numbered.{numbered_classes}
use Rattle.glossary.specs.Any.{is_in}
use Rattle.glossary.specs.Flags.{weight}
use Rattle.glossary.specs.Refers.{mentioned}
use Rattle.sheet.proofs.Glossed.{circular_is}
use Rattle.sheet.proofs.Loops.{told_loop, no_loop}
use Rattle.sheet.proofs.Props.{fair_of}
use Rattle.sheet.specs.Circles.{NoCircle, words_with, tried, CircleLaw}
use Rattle.sheet.specs.Fair.{Fair}
use Rattle.sheet.specs.Holds.{holds}
use Rattle.sheet.specs.Outcome.{mentions}
use Rattle.sheet.specs.Store.{Store, store_of, content_of}
use Rattle.sheet.specs.declared.sheets.Sheet.{Sheet}
use Rattle.tables.specs.Vocabulary.{class_names}
use Rattle.terms.specs.Term.{Spelled}
use Rattle.vocabulary.specs.Lexicon.{term_of}

pub no_circle : (s : Store) → Fair s → NoCircle (content_of s)
no_circle s fair c r = both_ways (s.refers c c) (fair.loopless c) (refers_complete (mentions (content_of s)) s.refers fair.follows r)

-- what a gloss mentions refers to fewer classes
pub ranked : (s : Store) → Fair s → (c e : ℕ) → is_in e (mentions (content_of s) c) ≡ true → weight (length s.held.book.classes) (s.refers e) < weight (length s.held.book.classes) (s.refers c)
ranked s fair c e i =
    weight_falls (mentions (content_of s)) s.refers fair.follows (length s.held.book.classes) fair.loopless fair.bounded c e i

pub circle_law : (s : Store) → Fair s → (w : List ℕ) (t : Spelled) → CircleLaw (content_of s) w t
circle_law s fair w t =
    let k = content_of s in
    let j = words_with k w t in
    let m = number j.classes w in
    let ds = map (number j.classes) (class_names t) in
    let own : mentions (tried k w t) m ≡ ds = ap mentioned (cond-true (eqb m m) (Some (term_of j t)) (k.gloss m) (eq-eqb m m refl)) ∙ numbered_classes j.classes j.links t in
    let other : (e : ℕ) → (e ≡ m → ⊥) → mentions (tried k w t) e ≡ mentions k e = λ e n. ap mentioned (cond-false (eqb e m) (Some (term_of j t)) (k.gloss e) (ne_eqb e m n)) in
    record {
      told = λ c. told_loop (mentions k) (mentions (tried k w t)) s.refers fair.follows fair.loopless m ds own other (length s.held.book.classes) fair.bounded (sym (circular_is s fair w t) ∙ c);
      none = λ c. no_loop (mentions k) (mentions (tried k w t)) s.refers fair.follows fair.loopless m ds own other (sym (circular_is s fair w t) ∙ c);
    }

-- what a gloss of w promises of circles, and what it does where nothing changed

pub circles : (s s' : Store) → Fair s → Fair s' → (w : List ℕ) → ((t : Spelled) → CircleLaw (content_of s) w t) × NoCircle (content_of s')
circles s s' fair fair' w = (circle_law s fair w, no_circle s' fair')

pub circles_now : (k : Sheet) (w : List ℕ) → ((t : Spelled) → CircleLaw (holds k) w t) × NoCircle (holds k)
circles_now k w = circles (store_of k.page) (store_of k.page) (fair_of k) (fair_of k) w
