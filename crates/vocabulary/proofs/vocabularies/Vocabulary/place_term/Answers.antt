use Rattle.std.proofs.Common.{rules, ◌≡◌, Ok, Err, MatchResult}
use Rattle.names.specs.Refusal.{at}
use Rattle.tables.specs.Book.{book_of}
use Rattle.vocabulary.proofs.Props.{ordered}
use Rattle.vocabulary.proofs.TermPlaced.{in_order_after, text_placed}
use Rattle.vocabulary.specs.Held.{held_by}
use Rattle.vocabulary.proofs.vocabularies.Vocabulary.place_term.Goals as goal

pub invariant_of-self : goal.invariant_of-self
invariant_of-self c =
    let v = c.args.self.now in
    let o = ordered v in
    record { order = ∣ in_order_after (held_by v.words) c.args.text.now o c.enter.result (book_of c.enter.new.self) (c.enter.ensures.law o.sound o.room) c.enter.ensures.kept ∣₁ }

pub returns : goal.returns
returns c =
    let v = c.args.self.now in
    let o = ordered v in
    let is : MatchResult c.enter.result (λ i. c.map_err.result ≡ Ok i) (λ e. c.map_err.result ≡ Err (at 3 e)) = search rules in
    text_placed (held_by v.words) c.args.text.now o c.enter.result (book_of c.enter.new.self) c.map_err.result (c.enter.ensures.law o.sound o.room) c.enter.ensures.kept is
