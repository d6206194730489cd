use Rattle.std.proofs.Common.{vec_items, arith}
use Rattle.std.proofs.lemmas.Bool.Decides.{nat_tests}
use Rattle.sheet.proofs.Lined.{line_fair, line_told, line_refused, ties_are}
use Rattle.sheet.proofs.Props.{fair_of}
use Rattle.sheet.specs.Content.{tied, with_line}
use Rattle.sheet.specs.Store.{store_of, content_of}
use Rattle.sheet.specs.declared.line.Line.TheVariants.{Tie}
use Rattle.vocabulary.specs.Held.{held_by}
use Rattle.sheet.proofs.sheets.Sheet.tie.Goals as goal

pub returns-in_err-placed : goal.returns-in_err-placed
returns-in_err-placed c =
    let s = store_of c.args.self.now.page in
    let room = c.tie_fits-room.ensures in
    let same = ties_are s.held.book.nodes s.lines in
    let (refused, kept) = c.in_err-placed.ensures in
    record { told = line_refused s (held_by c.tie.new.self.words) _ (λ p. with_line p.words (tied p.link p.from p.to) (content_of s)) c.from_residual.result c.in_err-placed.field-0.0 c.from_residual.ensures.1 (cc) kept }

pub invariant_of-self-2 : goal.invariant_of-self-2
invariant_of-self-2 c =
    let s = store_of c.args.self.now.page in
    let (y, o, p, order, grew) = c.in_ok-placed.ensures in
    let x = c.in_ok-placed.placed in
    record { fair = ∣ (line_fair s (held_by c.tie.new.self.words) (fair_of c.args.self.now) order grew (Tie x.link x.from x.to) (grind (arith, nat_tests, p.link_below, p.from_below, p.to_below)) (vec_items c.add.new.self.items) (cc (c.add.ensures, c.into.ensures))) ∣₁ }

pub returns : goal.returns
returns c =
    let s = store_of c.args.self.now.page in
    let room = c.tie_fits-room.ensures in
    let same = ties_are s.held.book.nodes s.lines in
    let (y, o, p, order, grew) = c.in_ok-placed.ensures in
    let x = c.in_ok-placed.placed in
    record {
      told =
          line_told s (held_by c.tie.new.self.words) (fair_of c.args.self.now) order grew (Tie x.link x.from x.to) (grind (arith, nat_tests, p.link_below, p.from_below, p.to_below)) (vec_items c.add.new.self.items) (cc (c.add.ensures, c.into.ensures)) _ (λ p. with_line p.words (tied p.link p.from p.to) (content_of s)) y (cc)
          (λ i. with_line (p.words i) (tied (p.link i) (p.from i) (p.to i)) (content_of s));
    }
