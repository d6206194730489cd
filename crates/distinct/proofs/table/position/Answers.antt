use Rattle.std.proofs.Common.{◌≡◌, map, ◌∙◌, rules}
use Rattle.std.proofs.lemmas.Iterator.{YieldsList-from_slice}
use Rattle.std.proofs.lemmas.Iterator.Search.{position_from_yields_List}
use Rattle.std.proofs.lemmas.Slice.Eq.{bytes_eq-Decides}
use Rattle.std.specs.Str.{bytes_eq}
use Rattle.distinct.specs.Numbering.{place}
use Rattle.distinct.proofs.Places.{alike_is, found_at, place_equal}
use Rattle.distinct.proofs.table.position.Goals.{After-position}
use Rattle.distinct.proofs.table.position.Given as given
use Rattle.distinct.proofs.table.position.Goals as goal

told : (g : given.Over) (c : After-position g) → c.position.result ≡ place (map g.T.Alike.shown c.args.items.now) (g.T.Alike.shown c.args.x.now)
told g c =
    let show = g.T.Alike.shown in
    position_from_yields_List (λ y. bytes_eq (show y) (show c.args.x.now)) _ _ c.position.result c.position.ensures.ran (YieldsList-from_slice _ c.iter.ensures.rest) (λ x b q k. (search rules, alike_is b (show x.now) (show c.args.x.now) (search rules)))
    ∙ place_equal show (λ y x. bytes_eq (show y) (show x)) (λ y x. bytes_eq-Decides (show y) (show x)) c.args.x.now c.args.items.now

pub returns-clause-value : goal.returns-clause-value
returns-clause-value = told

pub returns-clause-cases : goal.returns-clause-cases
returns-clause-cases g c = found_at _ _ _ (told g c)
