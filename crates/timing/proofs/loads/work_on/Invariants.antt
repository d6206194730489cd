use Rattle.timing.specs.Sums.{Sums}
use Rattle.timing.proofs.loads.work_on.Given as goal

abbrev pub invariant-loop : goal.invariant-loop
invariant-loop g l = Sums (g.L.Load.comes l.text) l.counter l.done
