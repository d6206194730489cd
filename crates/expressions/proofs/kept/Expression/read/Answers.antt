use Rattle.expressions.proofs.Expressed.{expressed}
use Rattle.expressions.proofs.kept.Expression.read.Goals as goal

pub invariant_of-result : goal.invariant_of-result
invariant_of-result c =
    let (t, read, built) = c.in_ok-read.ensures in
    let h = expressed c.new-draft.result c.read.new.builder t c.in_ok-read.field-0 c.args.text.now c.new-draft.ensures.2 read built c.in_ok-draft.was in
    record { sorted = h.sorted; some = h.some; shallow = h.shallow; long = h.long }
