use Rattle.std.proofs.Common.{rules}
use Rattle.judge.proofs.Few.{pieces_few}
use Rattle.judge.proofs.reports.proofread.Goals as goal

pub loop-i-init : goal.loop-i-init
loop-i-init c =
    let few = pieces_few 10 c.unwrap_or-text.result.now in
    search (rules, few)
