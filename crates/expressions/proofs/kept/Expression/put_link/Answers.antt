use Rattle.expressions.proofs.Buffers.{added_then, added_as}
use Rattle.expressions.proofs.kept.Expression.put_link.Goals as goal

pub returns : goal.returns
returns c = added_as (cc) (added_then c.put.ensures c.put-2.ensures)
