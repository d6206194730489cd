use Rattle.std.proofs.Common.{rules}
use Rattle.vectors.proofs.Told.{told}
use Rattle.vectors.proofs.registers.RegistersKind.agrees.Goals as goal

pub returns : goal.returns
returns c = search (rules, told)
