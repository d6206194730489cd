use Rattle.std.proofs.Common.{map, vec_items, sym, ap, ◌∙◌, subst, Some, arith}
use Rattle.distinct.specs.Numbering.{Apart}
use Rattle.distinct.proofs.Places.{added_new, apart_push}
use Rattle.distinct.proofs.table.Distinct.add.Goals as goal

pub returns-clause-value : goal.returns-clause-value
returns-clause-value g c =
    let long = c.args.self.now.items.ok.0 in
    ap Some c.len-n.ensures ∙ added_new g.T.Alike.shown (vec_items c.args.self.now.items) c.args.self.now.limit c.args.x c.in_default.ensures.cases (omega arith)

pub invariant_of-self-clause-apart : goal.invariant_of-self-clause-apart
invariant_of-self-clause-apart g c =
    subst (λ xs. Apart (map g.T.Alike.shown xs)) (sym c.push_reserved.ensures.items) (apart_push g.T.Alike.shown _ _ c.in_default.ensures.cases c.args.self.now.apart)
