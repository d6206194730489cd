use Rattle.std.proofs.Common.{rules}
use Rattle.terms.specs.Nodes.{name_bytes}
use Rattle.vocabulary.proofs.FitInput.{gloss_read}
use Rattle.vocabulary.proofs.Props.{ordered}
use Rattle.vocabulary.proofs.Stepping.{entered}
use Rattle.vocabulary.specs.Entries.{GlossAt, Stepped, gloss_steps}
use Rattle.vocabulary.specs.Held.{held_by, lexicon}
use Rattle.vocabulary.proofs.vocabularies.Vocabulary.gloss.Goals as goal

pub returns : goal.returns
returns c =
    let (t, read) = c.in_ok-check_in.ensures in
    let h = held_by c.args.self.now.words in
    let v = c.enter.new.self in
    let (i, call, kept) = c.enter.ensures in
    let s : Stepped (gloss_steps (lexicon h) (name_bytes c.args.class) c.args.term.now) c.enter.result GlossAt h (held_by i.words) = search rules in
    entered c.enter.result (gloss_read (lexicon h) (name_bytes c.args.class) c.args.term.now t read) s (ordered v) kept
