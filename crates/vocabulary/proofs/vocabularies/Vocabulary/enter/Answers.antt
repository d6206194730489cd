use Rattle.std.proofs.Common.{rules, sym, subst}
use Rattle.vocabulary.proofs.Props.{ordered}
use Rattle.vocabulary.specs.Held.{InOrder, held_by}
use Rattle.vocabulary.proofs.vocabularies.Vocabulary.enter.Goals as goal

pub invariant_of-self : goal.invariant_of-self
invariant_of-self g c =
    let v = c.args.self.now in
    let back = c.undo.ensures (held_by v.words) c.mark-mark.ensures (c.requires.grows c.steps-placed.result c.steps-placed.new.arg2 (search rules)) in
    record { order = ∣ subst InOrder (sym back) (ordered v) ∣₁ }

pub returns-then-is_err : goal.returns-then-is_err
returns-then-is_err g c =
    let v = c.args.self.now in
    let back = c.undo.ensures (held_by v.words) c.mark-mark.ensures (c.requires.grows c.steps-placed.result c.steps-placed.new.arg2 (search rules)) in
    (c.steps-placed.new.arg2, search rules, search (rules, back))

pub returns-else-is_err : goal.returns-else-is_err
returns-else-is_err g c = (c.steps-placed.new.arg2, search rules, search rules)
