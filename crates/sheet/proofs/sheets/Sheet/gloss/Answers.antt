use Rattle.std.proofs.Common.{Err, vec_items, sym, refl, ap, ◌∙◌, ◌||◌, ◌&&◌, eqb}
use Rattle.glossary.specs.Records.{gloss_at, refers_at}
use Rattle.sheet.proofs.CircleLaws.{circles, circles_now}
use Rattle.sheet.proofs.Glossed.{Asked, Made, asked_circle, asked_full, few, class_low, glossed_fair, asked_done}
use Rattle.sheet.proofs.Kept.{refused_fair, refused_told}
use Rattle.sheet.proofs.Props.{fair_of}
use Rattle.sheet.specs.Store.{store_of}
use Rattle.terms.specs.Nodes.{name_bytes}
use Rattle.vocabulary.specs.Held.{held_by}
use Rattle.sheet.proofs.sheets.Sheet.gloss.Goals as goal

pub returns-in_err-name-clause-circles : goal.returns-in_err-name-clause-circles
returns-in_err-name-clause-circles c = circles_now c.args.self.now c.args.class.now

pub returns-in_err-circle-clause-circles : goal.returns-in_err-circle-clause-circles
returns-in_err-circle-clause-circles c = circles_now c.args.self.now c.args.class.now

pub returns-then-has_gloss-clause-circles : goal.returns-then-has_gloss-clause-circles
returns-then-has_gloss-clause-circles c = circles_now c.args.self.now c.args.class.now

pub returns-then-circle-clause-told : goal.returns-then-circle-clause-told
returns-then-circle-clause-told c =
    let (t, read, found) = c.in_ok-circle.ensures in
    let asked : Asked (store_of c.args.self.now.page) c.args.class.now c.args.term.now (name_bytes c.in_ok-name.name) t c.has_gloss.result c.in_ok-circle.circle =
    record { fair = fair_of c.args.self.now; named = c.in_ok-name.ensures; read = read; has = c.has_gloss.ensures; found = found; plain = c.if-has_gloss.false } in
    (asked_circle asked c.if-circle.true ∙ ap (λ e. Err e) (sym c.in_field-then-circle.ensures), refl)

pub returns-then-circle-clause-circles : goal.returns-then-circle-clause-circles
returns-then-circle-clause-circles c = circles_now c.args.self.now c.args.class.now

pub returns-in_err-placed : goal.returns-in_err-placed
returns-in_err-placed c =
    let (t, read, found) = c.in_ok-circle.ensures in
    let (full, kept) = c.in_err-placed.ensures in
    let k = c.args.self.now in
    let s = store_of k.page in
    let h = held_by c.gloss.new.self.words in
    let asked : Asked s c.args.class.now c.args.term.now (name_bytes c.in_ok-name.name) t c.has_gloss.result c.in_ok-circle.circle =
    record { fair = fair_of k; named = c.in_ok-name.ensures; read = read; has = c.has_gloss.ensures; found = found; plain = c.if-has_gloss.false } in
    record {
      told = refused_told s h _ c.from_residual-in_err-placed.result c.in_err-placed.field-0.0 c.from_residual-in_err-placed.ensures.1 (asked_full asked c.if-circle.false c.in_err-placed.field-0.0 full) kept;
      circles = circles s _ (fair_of k) (refused_fair s h (fair_of k) kept) c.args.class.now;
    }

pub invariant_of-self-2 : goal.invariant_of-self-2
invariant_of-self-2 c =
    let (t, read, found) = c.in_ok-circle.ensures in
    let (y, o, p, order, grew) = c.in_ok-placed.ensures in
    let s = store_of c.args.self.now.page in
    let h = held_by c.gloss.new.self.words in
    let x = c.in_ok-placed.placed in
    let asked : Asked s c.args.class.now c.args.term.now (name_bytes c.in_ok-name.name) t c.has_gloss.result c.in_ok-circle.circle =
    record { fair = fair_of c.args.self.now; named = c.in_ok-name.ensures; read = read; has = c.has_gloss.ensures; found = found; plain = c.if-has_gloss.false } in
    let d = c.define.ensures.defined (class_low asked c.if-circle.false o p order grew) in
    let reach = c.reach_of-reach.ensures (few asked c.if-circle.false o p order grew) t read in
    let made : Made s h t x.class x.term (gloss_at (vec_items c.define.new.self.records)) (refers_at (vec_items c.define.new.self.records)) =
    record { glosses = d.glosses; passed = λ e f. d.refers e f ∙ ap (λ b. s.refers e f || ((eqb e x.class || s.refers e x.class) && b)) (reach f) } in
    record { fair = ∣ (glossed_fair asked c.if-circle.false o p order grew made) ∣₁ }

pub returns : goal.returns
returns c =
    let (t, read, found) = c.in_ok-circle.ensures in
    let (y, o, p, order, grew) = c.in_ok-placed.ensures in
    let k = c.args.self.now in
    let s = store_of k.page in
    let h = held_by c.gloss.new.self.words in
    let x = c.in_ok-placed.placed in
    let asked : Asked s c.args.class.now c.args.term.now (name_bytes c.in_ok-name.name) t c.has_gloss.result c.in_ok-circle.circle =
    record { fair = fair_of k; named = c.in_ok-name.ensures; read = read; has = c.has_gloss.ensures; found = found; plain = c.if-has_gloss.false } in
    let d = c.define.ensures.defined (class_low asked c.if-circle.false o p order grew) in
    let reach = c.reach_of-reach.ensures (few asked c.if-circle.false o p order grew) t read in
    let made : Made s h t x.class x.term (gloss_at (vec_items c.define.new.self.records)) (refers_at (vec_items c.define.new.self.records)) =
    record { glosses = d.glosses; passed = λ e f. d.refers e f ∙ ap (λ b. s.refers e f || ((eqb e x.class || s.refers e x.class) && b)) (reach f) } in
    record {
      told = asked_done asked c.if-circle.false o p order grew made;
      circles = circles s _ (fair_of k) (glossed_fair asked c.if-circle.false o p order grew made) c.args.class.now;
    }
