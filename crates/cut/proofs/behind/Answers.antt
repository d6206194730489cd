use Rattle.std.proofs.Common.{◌+◌, length, sym, ap, ◌∙◌, arith}
use Rattle.std.proofs.lemmas.List.{take_rest, drop_all, length-drop}
use Rattle.cut.proofs.behind.Goals as goal

pub returns-then-n-text : goal.returns-then-n-text
returns-then-n-text c =
    let s = c.args.text.now in
    let rest = take_rest s (c.args.n + 1) in
    record { rest = rest; shorter = λ h. omega (arith, ap length rest ∙ length-drop (c.args.n + 1) s) }

pub returns-else-n-text : goal.returns-else-n-text
returns-else-n-text c = record { rest = sym (drop_all (c.args.n + 1) c.args.text.now (omega arith)); shorter = λ h. omega arith }
