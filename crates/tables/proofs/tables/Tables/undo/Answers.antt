use Rattle.std.proofs.Common.{vec_items}
use Rattle.std.proofs.lemmas.List.{take-map}
use Rattle.terms.specs.Nodes.{name_bytes}
use Rattle.tables.proofs.tables.Tables.undo.Goals as goal

pub returns : goal.returns
returns c =
    let s = c.args.self.now in
    let cs = take-map name_bytes c.args.mark.classes (vec_items s.classes.items) in
    let ls = take-map name_bytes c.args.mark.links (vec_items s.links.items) in
    cc
