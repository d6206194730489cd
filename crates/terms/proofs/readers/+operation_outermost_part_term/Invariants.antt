-- Each part is read with less room; between two turns of `outermost` come `operation`, `part` and `term`.
use Rattle.std.proofs.Common.{◌+◌, ◌*◌}
use Rattle.terms.proofs.readers.+operation_outermost_part_term.Given as goal

abbrev pub decreases-outermost : goal.decreases-outermost
decreases-outermost g l = 4 * l.room

abbrev pub decreases-term : goal.decreases-term
decreases-term g l = 4 * l.room + 1

abbrev pub decreases-part : goal.decreases-part
decreases-part g l = 4 * l.room + 2

abbrev pub decreases-operation : goal.decreases-operation
decreases-operation g l = 4 * l.room + 3
