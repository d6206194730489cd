use Rattle.std.proofs.Common.{map, vec_items, sym, ap, ◌∙◌}
use Rattle.std.proofs.lemmas.List.{take-map}
use Rattle.terms.specs.Nodes.{name_bytes}
use Rattle.vocabulary.proofs.Undone.{undone}
use Rattle.vocabulary.specs.Held.{held_by}
use Rattle.vocabulary.proofs.words.Words.undo.Goals as goal

pub returns : goal.returns
returns c =
    λ h m g.
    let w = c.args.self.now in
    undone c.args.mark h (held_by w) _ _ _ c.undo.ensures (ap (map name_bytes) c.truncate.ensures.items ∙ sym (take-map name_bytes c.args.mark.items (vec_items w.items.items))) c.truncate.ensures.limit m g
