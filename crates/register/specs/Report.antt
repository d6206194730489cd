-- What is written about a register: its heading, and the first fault. Assumes nothing.
use Rattle.std.specs.Prelude.{ℕ, suc, ◌+◌, ◌*◌, min, cond, List, [], ◌∷◌, ◌++◌, length, Ok, Err, Result, ◌==◌, nat_le}
use Rattle.lines.specs.FaultLine.{fault_line}
use Rattle.lines.specs.Pieces.{pieces}
use Rattle.lines.specs.declared.letters.Stage.{Stage}
use Rattle.lines.specs.declared.letters.Stage.TheVariants.{Start, Lines, Questions}
use Rattle.names.specs.Refusal.{number, place_of, at}
use Rattle.names.specs.declared.refusals.Fault.{Fault}
use Rattle.names.specs.declared.refusals.Refusal.TheVariants.{WrongStage, Unended, FileTooLong}
use Rattle.register.specs.Progress.{Progress, begun, progress_after}
use Rattle.register.specs.declared.tallies.Tally.{Tally}

-- the line that tells a fault at line n
abbrev pub fault_at : ℕ → Fault → List ℕ
fault_at n e = fault_line n e.field (number e.refusal) (place_of e.refusal)

-- what is written, and how many lines of each kind were taken
pub record Report : Type 0 where
  pub text : List ℕ
  pub tally : Tally

abbrev pub ends : Progress → List ℕ → Report
ends p text = record { text = text; tally = p.tally }

-- the heading is copied; it is the only line that can stand at the start
abbrev pub copied : Stage → List ℕ → List ℕ
copied Start line = line ++ 10 ∷ []
copied Lines line = []
copied Questions line = []

-- nothing behind the last line's end is left, but where there was no line at all
abbrev pub at_end : ℕ → Progress → Stage → Report
at_end n p Start = ends p (fault_at n (at 0 WrongStage))
at_end n p Lines = ends p []
at_end n p Questions = ends p []

abbrev pub before : List ℕ → Report → Report
before text r = record { text = text ++ r.text; tally = r.tally }

-- after line n was taken or refused, with what follows where it was taken
abbrev pub then : ℕ → List ℕ → Progress → (Progress → Report) → Result Progress Fault → Report
then n line p more (Ok q) = before (copied p.stage line) (more q)
then n line p more (Err e) = ends p (fault_at n e)

-- the lines from number n on, the last piece being what stands behind the last byte 10
unfoldable pub report_from : ℕ → List (List ℕ) → Progress → Report
report_from n [] p = ends p []
report_from n (line ∷ []) p = cond (length line == 0) (at_end n p p.stage) (ends p (fault_at n (at 0 Unended)))
report_from n (line ∷ next ∷ rest) p = then n line p (report_from (suc n) (next ∷ rest)) (progress_after line p)

-- a file of at most 16,384 bytes, line by line from 1
abbrev pub report : List ℕ → Report
report file = cond (nat_le (length file) 16384) (report_from 1 (pieces 10 file) begun) (ends begun (fault_at 0 (at 0 FileTooLong)))

-- the bytes that a buffer must have
abbrev pub wanted : List ℕ → ℕ
wanted file = 2 * min (length file) 16384 + 32
