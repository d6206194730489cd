use Rattle.std.proofs.Common.{refl}
use Rattle.std.proofs.lemmas.Result.{MatchResult-weaker}
use Rattle.tables.proofs.Built.{built_is, built_keeps}
use Rattle.tables.specs.Building.{built}
use Rattle.tables.specs.declared.building.Building.{Building}
use Rattle.tables.proofs.building.Building.read_term.Goals as goal

pub returns : goal.returns
returns c =
    let s = c.args.self.now in
    let s' = c.read.new.builder in
    let name = λ (x : Building). x.tables.ghost_name in
    MatchResult-weaker c.read.result c.read.ensures
    (λ i (t, r, x). (t, r, built_is built name t s i s' (built s) refl x, built_keeps built name t s i s' x))
    (λ e r. r)
