use Rattle.std.proofs.Common.{rules, ◌≡◌, length, ap, sym, ◌∙◌, arith}
use Rattle.expressions.specs.Expression.{term_of}
use Rattle.vocabulary.proofs.Called.{spelt}
use Rattle.vocabulary.specs.Entries.{place_text}
use Rattle.vocabulary.specs.Held.{held_by, lexicon}
use Rattle.vocabulary.proofs.vocabularies.Vocabulary.spell.Goals as goal

pub returns : goal.returns
returns c =
    let t = term_of c.in_ok-expression.expression in
    let v = c.in_ok-vocabulary.vocabulary in
    let places = sym (ap (λ h. place_text c.args.term.now (lexicon h)) c.in_ok-vocabulary.ensures.cases) ∙ c.in_ok-place_term.ensures.told.0 in
    let kept : length c.write.new.out ≡ length c.args.out.now = omega (arith, c.write.auto.out) in
    spelt (lexicon (held_by c.args.self.now.words)) c.args.term.now t c.in_ok-expression.ensures _ places c.args.out.now c.write.new.out _ kept (search rules) (search rules)
