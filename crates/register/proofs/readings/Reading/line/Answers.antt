use Rattle.std.proofs.Common.{sym, ◌∙◌}
use Rattle.std.proofs.lemmas.Result.{err_from_is_err_and}
use Rattle.register.proofs.Taking.{line_refused}
use Rattle.register.proofs.readings.Reading.line.Goals as goal

pub returns-in_err-enter : goal.returns-in_err-enter
returns-in_err-enter c =
    let p = err_from_is_err_and c.from_residual-in_err-enter.result c.from_residual-in_err-enter.ensures.1 in
    let is = sym c.in_ok-kind.ensures.ok_part ∙ c.letter.ensures in
    let then = sym c.in_ok-stage.ensures.ok_part ∙ c.follow.ensures in
    rw (p.1, p.2, c.in_ok-line.was) (line_refused c.in_ok-line.line.now c.args.self.now c.enter.new.self _ _ is then _ c.in_err-enter.ensures)
