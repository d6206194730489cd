use Rattle.std.proofs.Common.{rules}
use Rattle.std.specs.Cmp.Lexicographic.{same_text}
use Rattle.vectors.proofs.registers.holds.Goals as goal

pub returns : goal.returns
returns c = search (rules, same_text)
