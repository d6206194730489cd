-- What each call comes to: the refusal that comes first, or what the sheet then holds. Assumes nothing.
-- A line is accepted exactly if its outcome here is no refusal.
use Rattle.std.specs.Prelude.{◌≡◌, ℕ, Bool, cond, ◌||◌, List, is_some, Ok, Err, Result, MatchResult, nat_lt}
use Rattle.std.specs.Str.{bytes_eq}
use Rattle.distinct.specs.Numbering.{number}
use Rattle.std.specs.List.{list_any}
use Rattle.glossary.specs.Refers.{mentioned, refers_within}
use Rattle.names.specs.declared.refusals.Fault.{Fault}
use Rattle.names.specs.declared.refusals.Refusal.TheVariants.{GlossedAlready, Circle}
use Rattle.sheet.specs.Content.{Content, stated, tied, defined, with_line, statements, ties}
use Rattle.tables.specs.Vocabulary.{class_names}
use Rattle.terms.specs.Term.{Spelled}
use Rattle.names.specs.Refusal.{at}
use Rattle.vocabulary.specs.Placing.{thus, name_in, term_in, gloss_words, state_words, tie_words}

-- the classes that the gloss of class c mentions
abbrev pub mentions : Content → ℕ → List ℕ
mentions k c = mentioned (k.gloss c)

-- A gloss of class w by t makes a circle: t mentions w, or a class that refers to w through glosses. There are at most
-- 64 classes, so a way without a circle goes through at most 64 glosses. `Circles.antt` has the law above this test.
abbrev pub circular : Content → List ℕ → Spelled → Bool
circular k w t =
    list_any (λ v. bytes_eq v w || refers_within 64 (mentions k) (number k.words.classes v) (number k.words.classes w)) (class_names t)

-- the class has a gloss
abbrev pub glossed : Content → List ℕ → Bool
glossed k w = is_some (k.gloss (number k.words.classes w))

-- The input's faults first, fields left to right; then a second gloss, a circle; then places for names, for terms, and
-- for the line itself: at most 128 statements and 64 ties.

abbrev pub glossing : Content → List ℕ → List ℕ → Result Content Fault
glossing k class term =
    thus (name_in 2 class) (λ w.
    thus (term_in 3 term) (λ t.
    cond (glossed k w) (Err (at 2 GlossedAlready))
    (cond (circular k w t) (Err (at 3 Circle))
    (thus (gloss_words k.words w t) (λ p. Ok (defined p.words p.class p.term k))))))

abbrev pub stating : Content → List ℕ → List ℕ → Result Content Fault
stating k item term =
    thus (state_words k.words item term (nat_lt (statements k.lines) 128)) (λ p. Ok (with_line p.words (stated p.item p.term) k))

abbrev pub tying : Content → List ℕ → List ℕ → List ℕ → Result Content Fault
tying k link from to =
    thus (tie_words k.words link from to (nat_lt (ties k.lines) 64)) (λ p. Ok (with_line p.words (tied p.link p.from p.to) k))

-- A call with this outcome answered r, and left `after` where `before` was: a refusal changes nothing.
abbrev pub Told : Result Content Fault → Result (Unit {0}) Fault → Content → Content → Type 0
Told o r before after = MatchResult r (λ _. o ≡ Ok after) (λ e. (o ≡ Err e) × (after ≡ before))
