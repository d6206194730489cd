-- The records after a class got its gloss. Assumes nothing.
use Rattle.std.specs.Prelude.{◌≡◌, ℕ, cond, ◌&&◌, ◌||◌, List, Some, ◌==◌}
use Rattle.glossary.specs.Records.{has_at, gloss_at, refers_at}
use Rattle.glossary.specs.declared.records.ClassRecord.{ClassRecord}
use Rattle.glossary.specs.declared.records.ClassSet.{ClassSet}

-- class c, and each that refers to it, refers to all of reach too
abbrev pub PassedOn : List ClassRecord → ℕ → ClassSet → List ClassRecord → Type 0
PassedOn rs c reach rs' = (e f : ℕ) → refers_at rs' e f ≡ (refers_at rs e f || ((e == c || refers_at rs e c) && has_at reach f))

-- class c is glossed by the term of this number, which leaves the records rs'
pub record Defined (rs : List ClassRecord) (c term : ℕ) (reach : ClassSet) (rs' : List ClassRecord) : Type 0 where
  pub glosses : (e : ℕ) → gloss_at rs' e ≡ cond (e == c) (Some term) (gloss_at rs e)
  pub refers : PassedOn rs c reach rs'
