use Rattle.std.proofs.lemmas.Result.{err_from_is_err_and}
use Rattle.terms.specs.Nodes.{name_bytes}
use Rattle.vocabulary.proofs.Stepping.{goes, goes_text, stops_text, ends, gloss_at}
use Rattle.vocabulary.specs.Held.{held_by, lexicon}
use Rattle.vocabulary.proofs.vocabularies.Vocabulary.gloss_steps.Goals as goal

pub returns-in_err-term : goal.returns-in_err-term
returns-in_err-term c =
    let p = err_from_is_err_and c.from_residual-in_err-term.result c.from_residual-in_err-term.ensures.1 in
    rw (p.1, p.2) (goes _ c.in_ok-class.ensures (λ x. stops_text c.args.term.now (lexicon (held_by c.place_name.new.self.words)) _ c.in_err-term.ensures))

pub returns : goal.returns
returns c =
    goes _ c.in_ok-class.ensures
    (λ x.
    goes_text c.args.term.now (lexicon (held_by c.place_name.new.self.words)) _ c.in_ok-term.ensures
    (λ t y. ends _ (gloss_at (name_bytes c.args.class) t c.in_ok-class.class c.in_ok-term.term (held_by c.place_name.new.self.words) (held_by c.place_term.new.self.words) c.place_term.ensures.grew x y)))
