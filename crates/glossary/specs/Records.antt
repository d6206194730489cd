-- What is kept of each class: its gloss, and the flags of the classes that it refers to. Assumes nothing.
use Rattle.std.specs.Prelude.{ℕ, Bool, false, List, [], None, Option, slice_index_or}
use Rattle.glossary.specs.declared.records.ClassRecord.{ClassRecord}
use Rattle.glossary.specs.declared.records.ClassSet.{ClassSet}

abbrev pub has_at : ClassSet → ℕ → Bool
has_at s f = slice_index_or s.flags f false

-- a class without a gloss, as each past the end is
abbrev pub plain : ClassRecord
plain = record { gloss = None; refers = record { flags = [] } }

-- the number of the term that glosses class c
abbrev pub gloss_at : List ClassRecord → ℕ → Option ℕ
gloss_at rs c = (slice_index_or rs c plain).gloss

-- class c refers to d
abbrev pub refers_at : List ClassRecord → ℕ → ℕ → Bool
refers_at rs c d = has_at (slice_index_or rs c plain).refers d
