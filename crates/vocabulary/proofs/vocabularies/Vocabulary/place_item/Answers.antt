use Rattle.std.proofs.Common.{sym, subst}
use Rattle.terms.specs.Nodes.{name_bytes}
use Rattle.vocabulary.proofs.Placings.{in_order_item, item_added, item_placed}
use Rattle.vocabulary.proofs.Props.{ordered}
use Rattle.vocabulary.specs.Held.{InOrder, held_by}
use Rattle.vocabulary.proofs.vocabularies.Vocabulary.place_item.Goals as goal

pub invariant_of-self : goal.invariant_of-self
invariant_of-self c =
    let v = c.args.self.now in
    let is = item_added v.words c.args.name _ _ c.add.ensures.items c.add.ensures.limit in
    record { order = ∣ subst InOrder (sym is) (in_order_item (name_bytes c.args.name) (held_by v.words) (ordered v)) ∣₁ }

pub returns : goal.returns
returns c =
    let v = c.args.self.now in
    let is = item_added v.words c.args.name _ _ c.add.ensures.items c.add.ensures.limit in
    rw (c.ok_or.ensures.value, c.in_field.ensures, c.add.ensures.value, is)
    (item_placed (name_bytes c.args.name) (held_by v.words) (ordered v) c.args.field)
