use Rattle.std.proofs.Common.{rules}
use Rattle.terms.specs.Nodes.{name_bytes}
use Rattle.vocabulary.proofs.FitInput.{statement_read}
use Rattle.vocabulary.proofs.Props.{ordered}
use Rattle.vocabulary.proofs.Stepping.{entered}
use Rattle.vocabulary.specs.Entries.{StatementAt, Stepped, state_steps}
use Rattle.vocabulary.specs.Held.{held_by, lexicon}
use Rattle.vocabulary.proofs.vocabularies.Vocabulary.statement.Goals as goal

pub returns : goal.returns
returns c =
    let (t, read) = c.in_ok-check_in.ensures in
    let h = held_by c.args.self.now.words in
    let v = c.enter.new.self in
    let (i, call, kept) = c.enter.ensures in
    let s : Stepped (state_steps (lexicon h) (name_bytes c.in_ok-item.item) c.args.term.now c.args.room) c.enter.result StatementAt h (held_by i.words) = search rules in
    entered c.enter.result (statement_read (lexicon h) c.args.item.now c.args.term.now (name_bytes c.in_ok-item.item) t c.args.room c.in_ok-item.ensures read) s (ordered v) kept
