use Rattle.std.proofs.Common.{map, sym, subst}
use Rattle.distinct.proofs.Places.{apart_take}
use Rattle.distinct.specs.Numbering.{Apart}
use Rattle.distinct.proofs.table.Distinct.truncate.Goals as goal

pub invariant_of-self-clause-apart : goal.invariant_of-self-clause-apart
invariant_of-self-clause-apart g c =
    subst (λ xs. Apart (map g.T.Alike.shown xs)) (sym c.truncate.ensures.items) (apart_take g.T.Alike.shown _ _ c.args.self.now.apart)
