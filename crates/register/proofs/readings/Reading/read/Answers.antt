use Rattle.std.proofs.Common.{◌≡◌, ◌+◌, ap, ◌∙◌, ⊎_elim, rules, arith}
use Rattle.std.proofs.lemmas.Result.{err_from_is_err_and}
use Rattle.std.specs.Iterator.Adapters.{enumerate_source}
use Rattle.lines.specs.Unread.{unread}
use Rattle.register.proofs.Walking.{told_err, told_ok, turn_refused, turn_taken, walk_ends, walk_fails}
use Rattle.register.proofs.readings.Reading.read.Goals as goal

pub returns-in_err-map_err : goal.returns-in_err-map_err
returns-in_err-map_err c =
    let kept = c.loop-i.invariant in
    let step = c.in-Some.ensures.steps in
    let rest = unread (enumerate_source c.loop-i.i-iterator) in
    let behind = unread (enumerate_source c.next.new.self) in
    let p = err_from_is_err_and c.from_residual.result c.from_residual.ensures.1 in
    let t = told_err c.line.result c.map_err.result _ c.map_err.ensures.cases c.in_err-map_err.field-0.0 c.in_err-map_err.was in
    let is : c.in_err-map_err.field-0.0 ≡ record { line = c.in-Some.i + 1; fault = t.0 } = search rules in
    let located = is ∙ ap (λ i. record { line = i + 1; fault = t.0 }) step.1 in
    rw (p.1, p.2, located) (turn_refused _ _ rest c.loop-i.self kept.so_far kept.few behind c.line.new.self c.in-Some.line c.line.result step.0 c.line.ensures t.0 t.1)

pub loop-i-preserved : goal.loop-i-preserved
loop-i-preserved c =
    let kept = c.loop-i.invariant in
    let step = c.in-Some.ensures.steps in
    let rest = unread (enumerate_source c.loop-i.i-iterator) in
    let behind = unread (enumerate_source c.next.new.self) in
    let ok = told_ok c.line.result c.map_err.result _ c.map_err.ensures.cases c.in_ok-map_err.was in
    let next = turn_taken _ _ rest c.loop-i.self kept.so_far kept.few behind c.line.new.self c.in-Some.line c.line.result step.0 c.line.ensures ok in
    record {
      can = c.in-Some.ensures.goes.keeps;
      finite = tt;
      so_far = rw step.2 next.so_far;
      few = rw step.2 next.few;
      short = omega (arith, next.shorter, kept.short, step.2);
      begins = λ e. absurd (next.under_way e);
    }

pub returns-in-Start : goal.returns-in-Start
returns-in-Start c =
    let kept = c.loop-i.invariant in
    rw c.into-in-Start.ensures (walk_fails _ _ _ c.loop-i.self kept.so_far c.in-None.ensures.steps.0.0 (kept.begins c.in-Start.is) c.in-Start.is)

pub returns-in-Lines : goal.returns-in-Lines
returns-in-Lines c =
    let kept = c.loop-i.invariant in
    walk_ends _ _ _ c.loop-i.self kept.so_far c.in-None.ensures.steps.0.0 (λ e. ⊎_elim (λ l. cc) (λ q. cc) c.in-Lines.is)
