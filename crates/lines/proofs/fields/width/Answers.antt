use Rattle.std.proofs.Common.{rules, tests, ap, ◌∙◌}
use Rattle.std.proofs.lemmas.Iterator.{YieldsList-from_take}
use Rattle.std.proofs.lemmas.Iterator.Consumers.{count_from_yields_List}
use Rattle.std.proofs.lemmas.Iterator.Splits.{YieldsList-from_slice_split}
use Rattle.std.proofs.lemmas.List.{length-take}
use Rattle.std.specs.Slice.Iter.{split_rest, split_done, split_callee}
use Rattle.lines.specs.Pieces.{pieces}
use Rattle.lines.proofs.fields.width.Goals as goal

pub returns : goal.returns
returns c =
    let split = c.split.ensures in
    let source = c.take.ensures.source in
    let cut = YieldsList-from_slice_split _ _ c.args.line.now (ap split_rest source ∙ split.rest) (ap split_done source ∙ split.done) (ap split_callee source ∙ split.closure) (λ x r q k. search (rules, tests)) in
    count_from_yields_List _ _ c.count.ensures.ran (YieldsList-from_take c.args.most cut c.take.ensures.count)
    ∙ length-take c.args.most (pieces 9 c.args.line.now)
