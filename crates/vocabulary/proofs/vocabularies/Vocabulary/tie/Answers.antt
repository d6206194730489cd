use Rattle.std.proofs.Common.{rules}
use Rattle.terms.specs.Nodes.{name_bytes}
use Rattle.vocabulary.proofs.FitInput.{tie_read}
use Rattle.vocabulary.proofs.Props.{ordered}
use Rattle.vocabulary.proofs.Stepping.{entered}
use Rattle.vocabulary.specs.Entries.{TieAt, Stepped, tie_steps}
use Rattle.vocabulary.specs.Held.{held_by, lexicon}
use Rattle.vocabulary.proofs.vocabularies.Vocabulary.tie.Goals as goal

pub returns : goal.returns
returns c =
    let h = held_by c.args.self.now.words in
    let v = c.enter.new.self in
    let l = name_bytes c.in_ok-link.link in
    let a = name_bytes c.in_ok-from.from in
    let b = name_bytes c.in_ok-to.to in
    let (i, call, kept) = c.enter.ensures in
    let s : Stepped (tie_steps (lexicon h) l a b c.args.room) c.enter.result TieAt h (held_by i.words) = search rules in
    entered c.enter.result (tie_read (lexicon h) c.args.link.now c.args.from.now c.args.to.now l a b c.args.room c.in_ok-link.ensures c.in_ok-from.ensures c.in_ok-to.ensures) s (ordered v) kept
