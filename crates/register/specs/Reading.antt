-- What reading one line does to a reading: what it takes, or why it is refused. Assumes nothing.
use Rattle.std.specs.Prelude.{◌≡◌, ℕ, ◌≤◌, ◌⊎◌, List, [], ◌∷◌, ◌++◌, length, Ok, Err, vec_items, Result, MatchResult}
use Rattle.std.specs.Borrow.{Bor}
use Rattle.lines.specs.Pieces.{pieces}
use Rattle.lines.specs.Stages.{width as width_of}
use Rattle.lines.specs.declared.letters.Letter.{Letter}
use Rattle.lines.specs.declared.letters.Letter.TheVariants.{Heading, Gloss, Statement, Tie, Question}
use Rattle.lines.specs.declared.letters.Stage.{Stage}
use Rattle.names.specs.declared.refusals.Fault.{Fault}
use Rattle.names.specs.declared.refusals.Refusal.{Refusal}
use Rattle.names.specs.declared.refusals.Refusal.TheVariants.{NoMemory}
use Rattle.register.specs.Progress.{Progress, taken, of_kind, progress_after}
use Rattle.register.specs.Report.{copied}
use Rattle.register.specs.declared.readings.Reading.{Reading}
use Rattle.register.specs.declared.tallies.Tally.{Tally}
use Rattle.sheet.specs.Holds.{holds}
use Rattle.names.specs.Refusal.{at}

abbrev pub progress_of : Reading → Progress
progress_of r = record { stage = r.stage; content = holds r.sheet; tally = r.tally }

-- what is to be written so far
abbrev pub text_of : Reading → List ℕ
text_of r = vec_items r.text

-- at most n lines of each kind
pub record Few (n : ℕ) (t : Tally) : Type 0 where
  pub glosses : t.glosses ≤ n
  pub statements : t.statements ≤ n
  pub ties : t.ties ≤ n
  pub questions : t.questions ≤ n

-- what a line of this kind adds to the text
abbrev pub copied_by : Letter → List ℕ → List ℕ
copied_by Heading line = line ++ 10 ∷ []
copied_by Gloss line = []
copied_by Statement line = []
copied_by Tie line = []
copied_by Question line = []

-- a line of this kind was taken, and is still to be counted
pub record Took (l : Letter) (line : List ℕ) (before after : Reading) : Type 0 where
  pub width : length (pieces 9 line) ≡ width_of l
  pub content : taken l line (holds before.sheet) ≡ Ok (holds after.sheet)
  pub tally : after.tally ≡ before.tally
  pub text : text_of after ≡ text_of before ++ copied_by l line

-- What is to be told stays as it was; of a want of memory nothing is told.
abbrev pub Kept : Fault → Type 0 → Reading → Reading → Type 0
Kept e why before after = (e ≡ at 0 NoMemory) ⊎ (why × (after.tally ≡ before.tally) × (text_of after ≡ text_of before))

-- a line of this kind, wherever it stands
abbrev pub Entered : Letter → List ℕ → Result (Unit {0}) Fault → Reading → Reading → Type 0
Entered l line r before after =
    MatchResult r (λ _. Took l line before after) (λ e. Kept e ((s : Stage) → of_kind l s line (progress_of before) ≡ Err e) before after)

-- a line of any kind
abbrev pub Taken : List ℕ → Result (Unit {0}) Fault → Reading → Reading → Type 0
Taken line r before after =
    MatchResult r (λ _. (progress_after line (progress_of before) ≡ Ok (progress_of after)) × (text_of after ≡ text_of before ++ copied before.stage line))
    (λ e. Kept e (progress_after line (progress_of before) ≡ Err e) before after)

-- a line of any kind, or the refusal that stands in its place
abbrev pub TakenOr : Result (Bor (List ℕ)) Refusal → Result (Unit {0}) Fault → Reading → Reading → Type 0
TakenOr line r before after = MatchResult line (λ w. Taken w.now r before after) (λ f. (r ≡ Err (at 0 f)) × (after ≡ before))
