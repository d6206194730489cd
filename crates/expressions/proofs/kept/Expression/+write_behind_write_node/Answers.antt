use Rattle.expressions.proofs.Buffers.{added_as, added_then}
use Rattle.expressions.proofs.kept.Expression.+write_behind_write_node.Goals as goal

pub write_behind-returns : goal.write_behind-returns
write_behind-returns t c = added_then c.put.ensures c.write_node.ensures

pub write_node-returns-in-And : goal.write_node-returns-in-And
write_node-returns-in-And t c = added_as c.in-And.ensures.2 (added_then c.write_behind-in-And.ensures c.write_behind-in-And-2.ensures)

pub write_node-returns-in-Or : goal.write_node-returns-in-Or
write_node-returns-in-Or t c = added_as c.in-Or.ensures.2 (added_then c.write_behind-in-Or.ensures c.write_behind-in-Or-2.ensures)

pub write_node-returns-in-Exists : goal.write_node-returns-in-Exists
write_node-returns-in-Exists t c = added_as c.in-Exists.ensures.2 (added_then c.put_link.ensures c.write_behind-in-Exists.ensures)

pub write_node-returns-in-Forall : goal.write_node-returns-in-Forall
write_node-returns-in-Forall t c = added_as c.in-Forall.ensures.2 (added_then c.put_link-in-Forall.ensures c.write_behind-in-Forall.ensures)
