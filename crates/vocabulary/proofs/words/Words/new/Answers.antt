use Rattle.std.proofs.Common.{map, ap}
use Rattle.terms.specs.Nodes.{name_bytes}
use Rattle.vocabulary.proofs.Called.{fresh}
use Rattle.vocabulary.specs.Held.{held_by}
use Rattle.vocabulary.proofs.words.Words.new.Goals as goal

pub returns : goal.returns
returns c =
    let t = c.in_ok-new.ensures in
    let d = c.in_ok-new-2.ensures in
    fresh (held_by (record { tables = c.in_ok-new.field-0; items = c.in_ok-new-2.field-0 })) (ap (map name_bytes) t.empty.0) (ap (map name_bytes) t.empty.1) t.empty.2 (ap (map name_bytes) d.0) t.limits.0 t.limits.1 t.limits.2 d.1
