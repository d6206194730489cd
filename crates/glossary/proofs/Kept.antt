-- A record at its place, by any other record for a place past the end. Assumes nothing.
use Rattle.std.proofs.Common.{◌≡◌, ℕ, ◌<◌, List, length, get_or, ap, ◌∙◌}
use Rattle.std.proofs.lemmas.List.{get_or_default}
use Rattle.glossary.specs.Records.{has_at, gloss_at, plain, refers_at}
use Rattle.glossary.specs.declared.records.ClassRecord.{ClassRecord}

pub gloss_at_lem : (rs : List ClassRecord) (c : ℕ) (r : ClassRecord) → c < length rs → r ≡ get_or rs c r → r.gloss ≡ gloss_at rs c
gloss_at_lem rs c r l e = ap (λ x. x.gloss) (e ∙ get_or_default rs c r plain l)

pub refers_at_lem : (rs : List ClassRecord) (c : ℕ) (r : ClassRecord) (d : ℕ) → c < length rs → r ≡ get_or rs c r → has_at r.refers d ≡ refers_at rs c d
refers_at_lem rs c r d l e = ap (λ x. has_at x.refers d) (e ∙ get_or_default rs c r plain l)
