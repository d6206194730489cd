-- What taking a line comes to, from what a line of its kind does. Assumes nothing.
use Rattle.std.proofs.Common.{◌≡◌, ℕ, List, [], get_or, Some, Err, sym, ap, ◌∙◌, inl, inr, ⊎_elim}
use Rattle.lines.specs.Pieces.{pieces}
use Rattle.lines.specs.Stages.{letter_of, followed}
use Rattle.lines.specs.declared.letters.Letter.{Letter}
use Rattle.lines.specs.declared.letters.Stage.{Stage}
use Rattle.names.specs.declared.refusals.Fault.{Fault}
use Rattle.register.specs.Progress.{Progress, of_kind, at_stage, of_letter, progress_after}
use Rattle.register.specs.Reading.{progress_of, Kept}
use Rattle.register.specs.declared.readings.Reading.{Reading}

module _ (line : List ℕ) (p : Progress) (l : Letter) (s : Stage) (is : Some l ≡ letter_of (get_or (pieces 9 line) 0 [])) (then : Some s ≡ followed p.stage l) where
  pub of_kind_lem : progress_after line p ≡ of_kind l s line p
  of_kind_lem = ap (λ o. of_letter o line p) (sym is) ∙ ap (λ o. at_stage o l line p) (sym then)

-- what a kind of line does where it stands
module _ (line : List ℕ) (before after : Reading) (l : Letter) (s : Stage) (is : Some l ≡ letter_of (get_or (pieces 9 line) 0 [])) (then : Some s ≡ followed before.stage l) where
  pub line_refused : (e : Fault) → Kept e ((n : Stage) → of_kind l n line (progress_of before) ≡ Err e) before after → Kept e (progress_after line (progress_of before) ≡ Err e) before after
  line_refused e k = ⊎_elim (λ m. inl m) (λ r. inr (of_kind_lem line (progress_of before) l s is then ∙ r.0 s, r.1, r.2)) k
