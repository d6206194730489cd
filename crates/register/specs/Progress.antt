-- What one line of a register does: how far the reading then is, or the line's fault. Assumes nothing.
use Rattle.std.specs.Prelude.{ℕ, suc, cond, List, [], length, Some, None, Ok, Err, Option, Result, ◌==◌, slice_index_or}
use Rattle.lines.specs.Pieces.{pieces}
use Rattle.lines.specs.Stages.{letter_of, followed, width}
use Rattle.lines.specs.declared.letters.Letter.{Letter}
use Rattle.lines.specs.declared.letters.Letter.TheVariants.{Heading, Gloss, Statement, Tie, Question}
use Rattle.lines.specs.declared.letters.Stage.{Stage}
use Rattle.lines.specs.declared.letters.Stage.TheVariants.{Start}
use Rattle.names.specs.declared.refusals.Fault.{Fault}
use Rattle.names.specs.declared.refusals.Refusal.TheVariants.{UnknownLetter, WrongStage, FieldCount}
use Rattle.register.specs.declared.tallies.Tally.{Tally}
use Rattle.sheet.specs.Content.{Content, empty}
use Rattle.sheet.specs.Outcome.{glossing, stating, tying}
use Rattle.names.specs.Refusal.{at}
use Rattle.vocabulary.specs.Placing.{thus, query_words}

-- How far a register has been read: its stage, what was accepted, and how many lines of each kind.
pub record Progress : Type 0 where
  pub stage : Stage
  pub content : Content
  pub tally : Tally

abbrev pub no_lines : Tally
no_lines = record { glosses = 0; statements = 0; ties = 0; questions = 0 }

abbrev pub begun : Progress
begun = record { stage = Start; content = empty; tally = no_lines }

-- with one line more of this kind
abbrev pub counted : Letter → Tally → Tally
counted Heading t = t
counted Gloss t = record { glosses = suc t.glosses; statements = t.statements; ties = t.ties; questions = t.questions }
counted Statement t = record { glosses = t.glosses; statements = suc t.statements; ties = t.ties; questions = t.questions }
counted Tie t = record { glosses = t.glosses; statements = t.statements; ties = suc t.ties; questions = t.questions }
counted Question t = record { glosses = t.glosses; statements = t.statements; ties = t.ties; questions = suc t.questions }

-- field n of a line, from 1
abbrev pub second : List ℕ → List ℕ
second line = slice_index_or (pieces 9 line) 1 []

abbrev pub third : List ℕ → List ℕ
third line = slice_index_or (pieces 9 line) 2 []

abbrev pub fourth : List ℕ → List ℕ
fourth line = slice_index_or (pieces 9 line) 3 []

-- what the sheet holds after a line of this kind; a question changes nothing, and may be refused as a query is
abbrev pub taken : Letter → List ℕ → Content → Result Content Fault
taken Heading line k = Ok k
taken Gloss line k = glossing k (second line) (third line)
taken Statement line k = stating k (second line) (third line)
taken Tie line k = tying k (second line) (third line) (fourth line)
taken Question line k = thus (query_words k.words (second line) (third line)) (λ _. Ok k)

-- a line of this kind, at the stage that it leads to: the number of its fields first
abbrev pub of_kind : Letter → Stage → List ℕ → Progress → Result Progress Fault
of_kind l s line p =
    cond (length (pieces 9 line) == width l)
    (thus (taken l line p.content) (λ k. Ok (record { stage = s; content = k; tally = counted l p.tally })))
    (Err (at 0 FieldCount))

abbrev pub at_stage : Option Stage → Letter → List ℕ → Progress → Result Progress Fault
at_stage None l line p = Err (at 0 WrongStage)
at_stage (Some s) l line p = of_kind l s line p

abbrev pub of_letter : Option Letter → List ℕ → Progress → Result Progress Fault
of_letter None line p = Err (at 0 UnknownLetter)
of_letter (Some l) line p = at_stage (followed p.stage l) l line p

-- the letter first, then its stage, then the fields
abbrev pub progress_after : List ℕ → Progress → Result Progress Fault
progress_after line p = of_letter (letter_of (slice_index_or (pieces 9 line) 0 [])) line p
