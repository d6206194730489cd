-- That a sheet's tables are in order is a proposition. Assumes nothing.
use mathlib.Core.Logic.{∥∥₁_elim}
use denote.Struct.Props.{props}
use Rattle.vocabulary.proofs.Props.{in_order_prop}
use Rattle.sheet.specs.Fair.{Fair}
use Rattle.sheet.specs.Store.{Store, store_of}
use Rattle.sheet.specs.declared.sheets.Sheet.{Sheet}

pub fair_prop : (s : Store) → IsProp (Fair s)
fair_prop s x y =
    λ i.
    record {
      held = in_order_prop s.held x.held y.held i;
      glosses = (let p : IsProp (_) = hlevel props in p) x.glosses y.glosses i;
      plain = (let p : IsProp (_) = hlevel props in p) x.plain y.plain i;
      follows = (let p : IsProp (_) = hlevel props in p) x.follows y.follows i;
      loopless = (let p : IsProp (_) = hlevel props in p) x.loopless y.loopless i;
      bounded = (let p : IsProp (_) = hlevel props in p) x.bounded y.bounded i;
      lines = (let p : IsProp (_) = hlevel props in p) x.lines y.lines i;
    }

pub fair_of : (s : Sheet) → Fair (store_of s.page)
fair_of s = ∥∥₁_elim s.fair (fair_prop (store_of s.page)) (λ f. f)
