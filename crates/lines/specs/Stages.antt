-- The kinds of line, how many fields each has, and which may follow which. Assumes nothing.
use Rattle.std.specs.Prelude.{ℕ, Bool, cond, ◌&&◌, List, length, Some, None, Option, ◌==◌, slice_index}
use Rattle.lines.specs.declared.letters.Letter.{Letter}
use Rattle.lines.specs.declared.letters.Letter.TheVariants.{Heading, Gloss, Statement, Tie, Question}
use Rattle.lines.specs.declared.letters.Stage.{Stage}
use Rattle.lines.specs.declared.letters.Stage.TheVariants.{Start, Lines, Questions}

-- H, G, S, T and Q
abbrev pub sign : Letter → ℕ
sign Heading = 72
sign Gloss = 71
sign Statement = 83
sign Tie = 84
sign Question = 81

-- the number of fields, the letter's own among them
abbrev pub width : Letter → ℕ
width Heading = 2
width Gloss = 3
width Statement = 3
width Tie = 4
width Question = 3

-- the byte b and nothing else
abbrev pub alone : ℕ → List ℕ → Bool
alone b w = length w == 1 && slice_index w 0 == b

-- what a first field says
abbrev pub letter_of : List ℕ → Option Letter
letter_of w = cond (alone 72 w) (Some Heading) (cond (alone 71 w) (Some Gloss) (cond (alone 83 w) (Some Statement) (cond (alone 84 w) (Some Tie) (cond (alone 81 w) (Some Question) None))))

-- H only first; G, S, T and Q after it; only Q once a Q was met
abbrev pub followed : Stage → Letter → Option Stage
followed Start Heading = Some Lines
followed Start Gloss = None
followed Start Statement = None
followed Start Tie = None
followed Start Question = None
followed Lines Heading = None
followed Lines Gloss = Some Lines
followed Lines Statement = Some Lines
followed Lines Tie = Some Lines
followed Lines Question = Some Questions
followed Questions Heading = None
followed Questions Gloss = None
followed Questions Statement = None
followed Questions Tie = None
followed Questions Question = Some Questions
