use Rattle.std.proofs.Common.{◌≡◌, ◌≤◌, true, length, sym, ap, subst, rules}
use Rattle.names.specs.Name.{legal}
use Rattle.names.proofs.Flaws.{first_flaw_says, legal_when, legal_is}
use Rattle.names.proofs.Padding.{front_is, rest_is}
use Rattle.names.proofs.named.Name.new.Goals as goal

pub returns-in-Some : goal.returns-in-Some
returns-in-Some c = first_flaw_says _ _ (sym c.in-Some.ensures)

pub slice_bounds-bytes-end : goal.slice_bounds-bytes-end
slice_bounds-bytes-end c =
    let n = legal_when c.args.word.now (sym c.in_default.ensures) in
    let short : length c.args.word.now ≤ 16 = n.short in search rules

pub invariant_of-result : goal.invariant_of-result
invariant_of-result c =
    let none = sym c.in_default.ensures in
    let is = front_is c.args.word.now _ c.copy_from_slice.ensures.after in
    record {
      short = (legal_when c.args.word.now none).short;
      fine = subst (λ w. legal w ≡ true) (sym is) (legal_is c.args.word.now none);
      whole = ap length is;
      padded = rest_is c.args.word.now _ c.copy_from_slice.ensures.after;
    }

pub returns : goal.returns
returns c =
    (front_is c.args.word.now _ c.copy_from_slice.ensures.after, legal_when c.args.word.now (sym c.in_default.ensures))
