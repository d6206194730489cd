use Rattle.std.proofs.Common.{◌≡◌, ℕ, false, get_or, replicate, arith}
use Rattle.std.proofs.lemmas.Grind.{common_steps}
use Rattle.glossary.proofs.records.ClassSet.new.Goals as goal

none_at : (n f : ℕ) → get_or (replicate n false) f false ≡ false
none_at n f = grind (arith, common_steps)

pub returns : goal.returns
returns c f = none_at 64 f
