use Rattle.std.proofs.Common.{◌<◌, ◌∷◌, ◌++◌, length, take, refl, sym, ap, ◌∙◌, arith}
use Rattle.std.proofs.lemmas.Grind.{common_steps}
use Rattle.std.proofs.lemmas.List.{drop_all}
use Rattle.lines.specs.Pieces.{pieces}
use Rattle.lines.proofs.Cuts.{pieces_none, pieces_at, split_at_byte}
use Rattle.lines.proofs.walking.FileLinesIterator.next.Goals as goal

pub returns-then-n-rest-clause-steps : goal.returns-then-n-rest-clause-steps
returns-then-n-rest-clause-steps c =
    let s = c.args.self.now.rest.now in
    let n = c.piece_length-n.result in
    let cut = c.piece_length-n.ensures in
    let within : n < length s = omega arith in
    let behind = sym c.behind-self.ensures.rest in
    (pieces_at 10 s n within cut.before (cut.found within) ∙ ap (λ r. take n s ∷ pieces 10 r) behind, split_at_byte 10 s n within (cut.found within) ∙ ap (λ r. take n s ++ 10 ∷ r) behind)

pub returns-else-n-rest-clause-steps : goal.returns-else-n-rest-clause-steps
returns-else-n-rest-clause-steps c =
    let s = c.args.self.now.rest.now in
    let n = c.piece_length-n.result in
    (refl, pieces_none 10 s n (omega arith) c.piece_length-n.ensures.before, grind (arith, common_steps), c.behind-self.ensures.rest ∙ drop_all _ s (omega arith))
