use Rattle.std.proofs.Common.{◌≡◌, length, ◌∙◌, arith}
use Rattle.lines.specs.Pieces.{pieces}
use Rattle.lines.proofs.Cuts.{pieces_few}
use Rattle.lines.proofs.fields.cut_line.Goals as goal

pub returns : goal.returns
returns g c =
    let one = c.cut_field.ensures in
    let two = c.cut_field-2.ensures in
    let three = c.cut_field-3.ensures in
    let few = pieces_few 9 c.args.line.now in
    let wide : length (pieces 9 c.args.line.now) ≡ g.K.LineKind.FIELDS = omega (arith, few, c.width.ensures, c.FIELDS.ensures, c.FIELDS-2.ensures, c.saturating_add.ensures, c.if-width-FIELDS.false) in
    (wide, two.first ∙ one.others 0, three.first ∙ two.others 0 ∙ one.others 1, c.cut_field-4.ensures.first ∙ three.others 0 ∙ two.others 1 ∙ one.others 2)
