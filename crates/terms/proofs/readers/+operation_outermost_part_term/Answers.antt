use Rattle.std.proofs.Common.{take, Err, sym, refl, ap, ◌∙◌}
use Rattle.std.proofs.lemmas.Result.{err_from_is_err_and}
use Rattle.terms.proofs.Steps.{parse_none, parse_by, join_built, quantifier_built, modal_built}
use Rattle.terms.specs.Forms.{joins, quantifies, modalizes}
use Rattle.terms.specs.Term.{top, bottom, class, neg}
use Rattle.names.specs.declared.refusals.Refusal.TheVariants.{TooDeep}
use Rattle.terms.proofs.readers.+operation_outermost_part_term.Goals as goal

pub operation-returns-in-Top : goal.operation-returns-in-Top
operation-returns-in-Top g t c = rw c.in-Top.is (top, refl, refl, λ i z m. m)

pub operation-returns-in-Bottom : goal.operation-returns-in-Bottom
operation-returns-in-Bottom g t c = rw c.in-Bottom.is (bottom, refl, refl, λ i z m. m)

pub operation-returns-in_ok-a-in-Not : goal.operation-returns-in_ok-a-in-Not
operation-returns-in_ok-a-in-Not g t c =
    let x = c.in_ok-a-in-Not.ensures in
    rw (c.in-Not.is, x.1) (neg x.0, refl, x.2, λ i z m. (c.in_ok-a-in-Not.a, c.part.new.builder, x.3, m))

pub operation-returns-in_ok-b-in-Join : goal.operation-returns-in_ok-b-in-Join
operation-returns-in_ok-b-in-Join g t c =
    let x = c.in_ok-a-in-Join.ensures in
    let y = c.in_ok-b-in-Join.ensures in
    let r = rw x.2 at y.1 in
    rw (c.in-Join.is, x.1, r, c.node.ensures) (joins c.in-Join.join x.0 y.0, refl, y.2 ∙ x.2, λ i z m. search (join_built, x.3, y.3, m))

pub operation-returns-in_ok-a-in-Quantifier : goal.operation-returns-in_ok-a-in-Quantifier
operation-returns-in_ok-a-in-Quantifier g t c =
    let k = c.in_ok-skip_gap-in-Quantifier.ensures in
    let s = c.take_word.ensures in
    let n = rw (s.word, s.place, k.1) at c.in_ok-name-in-Quantifier.ensures in
    let x = c.in_ok-a-in-Quantifier.ensures in
    let r = rw (s.total, k.1, s.behind) at x.1 in
    let name = c.in_ok-name-in-Quantifier.name in
    rw (c.in-Quantifier.is, k.0, n, r, c.node-in-Quantifier.ensures) (quantifies c.in-Quantifier.quantifier (take name.len name.bytes) x.0, refl, x.2 ∙ s.total ∙ k.1, λ i z m. search (quantifier_built, c.label-link.ensures, x.3, m))

pub outermost-returns-then-room-eq0 : goal.outermost-returns-then-room-eq0
outermost-returns-then-room-eq0 g t c = parse_none _ _ _ c.if-room-eq0.true ∙ ap (λ p. Err (TooDeep p)) (sym c.place.ensures.at)

pub outermost-returns-in_err-bytes : goal.outermost-returns-in_err-bytes
outermost-returns-in_err-bytes g t c =
    let p = err_from_is_err_and c.from_residual.result c.from_residual.ensures.1 in
    let s = c.take_word.ensures in
    let w = rw (s.word, s.place) at c.in_err-bytes.ensures in
    rw (p.1, p.2, parse_by _ _ _ c.if-room-eq0.false, w.0, w.1) refl

pub outermost-returns-in_err-name-in-Name : goal.outermost-returns-in_err-name-in-Name
outermost-returns-in_err-name-in-Name g t c =
    let p = err_from_is_err_and c.from_residual-in_err-name-in-Name.result c.from_residual-in_err-name-in-Name.ensures.1 in
    let s = c.take_word.ensures in
    let w = rw (s.word, s.place, c.in-Name.is) at c.in_ok-bytes.ensures in
    let e = rw w.1.1 at c.in_err-name-in-Name.ensures in
    rw (p.1, p.2, parse_by _ _ _ c.if-room-eq0.false, w.0, e) refl

pub outermost-returns-in_ok-name-in-Name : goal.outermost-returns-in_ok-name-in-Name
outermost-returns-in_ok-name-in-Name g t c =
    let s = c.take_word.ensures in
    let w = rw (s.word, s.place, c.in-Name.is) at c.in_ok-bytes.ensures in
    let n = rw w.1.1 at c.in_ok-name-in-Name.ensures in
    let name = c.in_ok-name-in-Name.name in
    rw (parse_by _ _ _ c.if-room-eq0.false, w.0, n, s.behind) (class (take name.len name.bytes), refl, s.total, λ i z m. (c.label.result, c.label.new.self, c.label.ensures, m))

pub outermost-returns-in-Operator : goal.outermost-returns-in-Operator
outermost-returns-in-Operator g t c =
    let s = c.take_word.ensures in
    let w = rw (s.word, c.in-Operator.is) at c.in_ok-bytes.ensures in
    rw (parse_by _ _ _ c.if-room-eq0.false, w.0) (rw (s.total, s.behind) at c.operation.ensures)

pub outermost-returns-in_err-a-in-Reader : goal.outermost-returns-in_err-a-in-Reader
outermost-returns-in_err-a-in-Reader g t c =
    let p = err_from_is_err_and c.from_residual-in_err-a-in-Reader.result c.from_residual-in_err-a-in-Reader.ensures.1 in
    let s = c.take_word.ensures in
    let w = rw (s.word, c.in-Reader.is) at c.in_ok-bytes.ensures in
    let e = rw (s.total, s.behind) at c.in_err-a-in-Reader.ensures in
    rw (p.1, p.2, parse_by _ _ _ c.if-room-eq0.false, w.0, e) refl

pub outermost-returns-in_ok-a-in-Reader : goal.outermost-returns-in_ok-a-in-Reader
outermost-returns-in_ok-a-in-Reader g t c =
    let s = c.take_word.ensures in
    let w = rw (s.word, c.in-Reader.is) at c.in_ok-bytes.ensures in
    let x = c.in_ok-a-in-Reader.ensures in
    let r = rw (s.total, s.behind) at x.1 in
    rw (parse_by _ _ _ c.if-room-eq0.false, w.0, r, c.node.ensures) (modalizes c.in-Reader.modality c.in-Reader.reader x.0, refl, x.2 ∙ s.total, λ i z m. search (modal_built, x.3, m))
