use Rattle.std.proofs.Common.{rules}
use Rattle.std.proofs.lemmas.List.{append_assoc, append-nil}
use Rattle.cases.proofs.Pairs.{pair_first, few_left}
use Rattle.cases.proofs.hex_digits.decoded.Goals as goal

pub loop-pair-preserved : goal.loop-pair-preserved
loop-pair-preserved c = search (rules, pair_first, append_assoc)

pub returns : goal.returns
returns c = search (rules, few_left, append-nil)
