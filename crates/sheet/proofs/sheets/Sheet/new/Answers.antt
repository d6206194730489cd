use Rattle.std.proofs.Common.{rules}
use Rattle.sheet.proofs.Fresh.{fresh}
use Rattle.sheet.proofs.Lasts.{histories}
use Rattle.sheet.specs.Store.{store_of}
use Rattle.vocabulary.proofs.Props.{in_order}
use Rattle.sheet.proofs.sheets.Sheet.new.Goals as goal

pub returns-in_err-new : goal.returns-in_err-new
returns-in_err-new c = record { empty = search rules; histories = histories }

pub returns-in_err-new-2 : goal.returns-in_err-new-2
returns-in_err-new-2 c = record { empty = search rules; histories = histories }

pub returns-in_err-new-3 : goal.returns-in_err-new-3
returns-in_err-new-3 c = record { empty = search rules; histories = histories }

pub invariant_of-result : goal.invariant_of-result
invariant_of-result c =
    let s = store_of (record { vocabulary = c.in_ok-new.field-0; glossary = c.in_ok-new-2.field-0; lines = c.in_ok-new-3.field-0 }) in
    record { fair = ∣ (fresh s c.in_ok-new.ensures (in_order s.held c.in_ok-new.field-0.order) c.in_ok-new-2.ensures.0 c.in_ok-new-2.ensures.1 c.in_ok-new-3.ensures).0 ∣₁ }

pub returns : goal.returns
returns c =
    let s = store_of (record { vocabulary = c.in_ok-new.field-0; glossary = c.in_ok-new-2.field-0; lines = c.in_ok-new-3.field-0 }) in
    record { empty = (fresh s c.in_ok-new.ensures (in_order s.held c.in_ok-new.field-0.order) c.in_ok-new-2.ensures.0 c.in_ok-new-2.ensures.1 c.in_ok-new-3.ensures).1; histories = histories }
