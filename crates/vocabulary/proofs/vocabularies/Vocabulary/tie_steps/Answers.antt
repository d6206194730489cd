use Rattle.terms.specs.Nodes.{name_bytes}
use Rattle.vocabulary.proofs.Stepping.{goes, ends_room, tie_at}
use Rattle.vocabulary.specs.Held.{held_by}
use Rattle.vocabulary.proofs.vocabularies.Vocabulary.tie_steps.Goals as goal

pub returns : goal.returns
returns c =
    let i = held_by c.place_name.new.self.words in
    let j = held_by c.place_item.new.self.words in
    let k = held_by c.place_item-2.new.self.words in
    goes _ c.in_ok-link.ensures
    (λ x.
    goes _ c.in_ok-from.ensures
    (λ y.
    goes _ c.in_ok-to.ensures
    (λ z. ends_room _ c.in_ok-check_room.ensures (tie_at (name_bytes c.args.link) (name_bytes c.args.from) (name_bytes c.args.to) c.in_ok-link.link c.in_ok-from.from c.in_ok-to.to i j k c.place_item.ensures.grew c.place_item-2.ensures.grew x y z))))
