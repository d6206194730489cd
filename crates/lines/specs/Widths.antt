-- Each kind of line has a field. Assumes nothing.
use Rattle.std.specs.Prelude.{◌<◌}
use Rattle.std.proofs.Math.Nat.{zero-lt-suc}
use Rattle.lines.specs.Stages.{width}
use Rattle.lines.specs.declared.letters.Letter.{Letter}
use Rattle.lines.specs.declared.letters.Letter.TheVariants.{Heading, Gloss, Statement, Tie, Question}

pub some_fields : (l : Letter) → 0 < width l
some_fields Heading = zero-lt-suc 1
some_fields Gloss = zero-lt-suc 2
some_fields Statement = zero-lt-suc 2
some_fields Tie = zero-lt-suc 3
some_fields Question = zero-lt-suc 2
