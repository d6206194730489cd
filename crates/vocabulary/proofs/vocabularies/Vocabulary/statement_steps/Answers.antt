use Rattle.std.proofs.lemmas.Result.{err_from_is_err_and}
use Rattle.terms.specs.Nodes.{name_bytes}
use Rattle.vocabulary.proofs.Stepping.{goes, goes_text, stops_text, ends_room, ends_full, statement_at}
use Rattle.vocabulary.specs.Held.{held_by, lexicon}
use Rattle.vocabulary.proofs.vocabularies.Vocabulary.statement_steps.Goals as goal

pub returns-in_err-term : goal.returns-in_err-term
returns-in_err-term c =
    let p = err_from_is_err_and c.from_residual-in_err-term.result c.from_residual-in_err-term.ensures.1 in
    rw (p.1, p.2) (goes _ c.in_ok-item.ensures (λ x. stops_text c.args.term.now (lexicon (held_by c.place_item.new.self.words)) _ c.in_err-term.ensures))

pub returns-in_err-check_room : goal.returns-in_err-check_room
returns-in_err-check_room c =
    let p = err_from_is_err_and c.from_residual-in_err-check_room.result c.from_residual-in_err-check_room.ensures.1 in
    rw (p.1, p.2, c.in_err-check_room.ensures.1)
    (goes _ c.in_ok-item.ensures (λ x. goes_text c.args.term.now (lexicon (held_by c.place_item.new.self.words)) _ c.in_ok-term.ensures (λ t y. ends_full _ c.in_err-check_room.ensures.0)))

pub returns : goal.returns
returns c =
    goes _ c.in_ok-item.ensures
    (λ x.
    goes_text c.args.term.now (lexicon (held_by c.place_item.new.self.words)) _ c.in_ok-term.ensures
    (λ t y. ends_room _ c.in_ok-check_room.ensures (statement_at (name_bytes c.args.item) t c.in_ok-item.item c.in_ok-term.term (held_by c.place_item.new.self.words) (held_by c.place_term.new.self.words) c.place_term.ensures.grew x y)))
