use Rattle.std.proofs.Common.{refl}
use Rattle.std.proofs.lemmas.Result.{err_from_is_err_and}
use Rattle.terms.proofs.Whole.{is_read, is_refused}
use Rattle.terms.proofs.texts.read.Goals as goal

pub returns-in_err-rest : goal.returns-in_err-rest
returns-in_err-rest g c =
    let p = err_from_is_err_and c.from_residual.result c.from_residual.ensures.1 in
    rw (p.1, p.2) (is_refused _ _ (rw c.in_err-rest.ensures refl))

pub returns-in_err-number : goal.returns-in_err-number
returns-in_err-number g c =
    let p = err_from_is_err_and c.from_residual-in_err-number.result c.from_residual-in_err-number.ensures.1 in
    let k = c.in_ok-rest.ensures in
    rw (p.1, p.2) (is_refused _ _ (rw (k.0, rw k.1 at c.in_err-number.ensures) refl))

pub returns-in_err-finish : goal.returns-in_err-finish
returns-in_err-finish g c =
    let p = err_from_is_err_and c.from_residual-in_err-finish.result c.from_residual-in_err-finish.ensures.1 in
    let k = c.in_ok-rest.ensures in
    let x = c.in_ok-number.ensures in
    let e = rw (x.2, k.1) at (c.in_err-finish.ensures x.0) in
    rw (p.1, p.2) (is_refused _ _ (rw (k.0, rw k.1 at x.1) e))

pub returns : goal.returns
returns g c =
    let k = c.in_ok-rest.ensures in
    let x = c.in_ok-number.ensures in
    (x.0, is_read _ _ (rw (k.0, rw k.1 at x.1, c.in_ok-finish.ensures) refl), x.3)
