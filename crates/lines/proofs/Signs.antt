-- A first field names a kind of line exactly if it is that kind's letter alone. Assumes nothing.
use Rattle.std.proofs.Common.{◌≡◌, ℕ, true, cond, eqb, List, [], ◌∷◌, length, get_or, Some, None, Option, sym, refl, ap, ◌∙◌, ⊎_elim, arith}
use Rattle.std.proofs.lemmas.Bool.{cond-true, cond-false, cases_Bool, and_parts, eqb-true}
use Rattle.lines.specs.Stages.{sign, alone, letter_of}
use Rattle.lines.specs.declared.letters.Letter.{Letter}
use Rattle.lines.specs.declared.letters.Letter.TheVariants.{Heading, Gloss, Statement, Tie, Question}

pub letter_of_sign : (l : Letter) → letter_of (sign l ∷ []) ≡ Some l
letter_of_sign Heading = refl
letter_of_sign Gloss = refl
letter_of_sign Statement = refl
letter_of_sign Tie = refl
letter_of_sign Question = refl

alone_says : (b : ℕ) (w : List ℕ) → alone b w ≡ true → w ≡ b ∷ []
alone_says b w e = let p = and_parts (eqb (length w) 1) (eqb (get_or w 0 0) b) e in one_byte w (eqb-true (length w) 1 p.0) (eqb-true (get_or w 0 0) b p.1)
  where
    one_byte : (v : List ℕ) → length v ≡ 1 → get_or v 0 0 ≡ b → v ≡ b ∷ []
    one_byte [] l x = absurd (omega arith)
    one_byte (y ∷ []) l x = ap (λ z. z ∷ []) x
    one_byte (y ∷ (z ∷ zs)) l x = absurd (omega arith)

-- one test: the letter it answers, or what the tests behind it answer
one_test : (m : Letter) (w : List ℕ) (o : Option Letter) → ((l : Letter) → o ≡ Some l → w ≡ sign l ∷ []) → (l : Letter) → cond (alone (sign m) w) (Some m) o ≡ Some l → w ≡ sign l ∷ []
one_test m w o others l e =
    ⊎_elim
    (λ t. let s = sym (cond-true (alone (sign m) w) (Some m) o t) ∙ e in let same : m ≡ l = cc in alone_says (sign m) w t ∙ ap (λ k. sign k ∷ []) same)
    (λ f. others l (sym (cond-false (alone (sign m) w) (Some m) o f) ∙ e))
    (cases_Bool (alone (sign m) w))

pub letter_of_says : (w : List ℕ) (l : Letter) → letter_of w ≡ Some l → w ≡ sign l ∷ []
letter_of_says w = one_test Heading w _ (one_test Gloss w _ (one_test Statement w _ (one_test Tie w _ (one_test Question w None (λ l e. cc)))))
