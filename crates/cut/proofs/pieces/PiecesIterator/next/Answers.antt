use Rattle.std.proofs.Common.{◌<◌, length, ap, arith}
use Rattle.std.proofs.lemmas.Grind.{common_steps}
use Rattle.cut.proofs.First.{pieces_first}
use Rattle.cut.proofs.pieces.PiecesIterator.next.Goals as goal

pub returns : goal.returns
returns c =
    let cut = c.piece_length-n.ensures in
    let some : 0 < length c.args.self.now.rest.now = grind (arith, common_steps) in
    let first = pieces_first _ _ _ _ some cut.within cut.before cut.found c.behind-self.ensures.rest in
    record { steps = first; goes = record { on = λ h. (tt, h, omega (arith, ap length first)); keeps = tt; rests = λ _. tt } }
