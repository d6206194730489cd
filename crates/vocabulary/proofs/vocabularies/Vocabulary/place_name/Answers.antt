use Rattle.std.proofs.Common.{sym, subst}
use Rattle.terms.specs.Nodes.{name_bytes}
use Rattle.vocabulary.proofs.Placings.{with_book, in_order_name, name_placed}
use Rattle.vocabulary.proofs.Props.{ordered}
use Rattle.vocabulary.specs.Held.{InOrder, held_by}
use Rattle.vocabulary.proofs.vocabularies.Vocabulary.place_name.Goals as goal

pub invariant_of-self : goal.invariant_of-self
invariant_of-self c =
    let v = c.args.self.now in
    record { order = ∣ subst (λ b. InOrder (with_book (held_by v.words) b)) (sym c.add_name.ensures.book) (in_order_name (name_bytes c.args.name) (held_by v.words) (ordered v) c.args.sort c.args.name.fine) ∣₁ }

pub returns : goal.returns
returns c =
    let v = c.args.self.now in
    rw (c.ok_or.ensures.value, c.in_field.ensures, c.add_name.ensures.value, c.add_name.ensures.book)
    (name_placed (name_bytes c.args.name) (held_by v.words) (ordered v) c.args.sort c.args.field c.args.name.fine)
