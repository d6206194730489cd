-- A part's number is below its whole's, and between the two comes `write_behind`.
use Rattle.std.proofs.Common.{◌+◌, ◌*◌}
use Rattle.expressions.proofs.kept.Expression.+write_behind_write_node.Given as goal

abbrev pub decreases-write_behind : goal.decreases-write_behind
decreases-write_behind l = 2 * l.i + 1

abbrev pub decreases-write_node : goal.decreases-write_node
decreases-write_node l = 2 * l.i
