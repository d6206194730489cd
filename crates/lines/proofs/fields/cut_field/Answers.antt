use Rattle.std.proofs.Common.{[], get_or, ap, ◌∙◌}
use Rattle.lines.specs.Pieces.{pieces}
use Rattle.lines.proofs.Cuts.{first_piece, later_piece}
use Rattle.lines.proofs.fields.cut_field.Goals as goal

pub returns-clause-first : goal.returns-clause-first
returns-clause-first c = first_piece 9 c.args.line.now c.piece_length-n.result c.piece_length-n.ensures.before c.piece_length-n.ensures.found

pub returns-clause-others : goal.returns-clause-others
returns-clause-others c k =
    ap (λ s. get_or (pieces 9 s) k []) c.behind.ensures.rest
    ∙ later_piece 9 c.args.line.now c.piece_length-n.result c.piece_length-n.ensures.before c.piece_length-n.ensures.found k
