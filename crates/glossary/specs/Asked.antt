-- Whether a gloss makes a circle, and which classes it reaches, by the names of its classes. Assumes nothing.
use Rattle.std.specs.Prelude.{ℕ, Bool, ◌&&◌, ◌||◌, List, ◌==◌}
use Rattle.std.specs.Str.{bytes_eq}
use Rattle.distinct.specs.Numbering.{number, known}
use Rattle.glossary.specs.Records.{refers_at}
use Rattle.glossary.specs.declared.records.ClassRecord.{ClassRecord}

-- class v is class w, or refers to it
abbrev pub circles : List (List ℕ) → List ClassRecord → List ℕ → List ℕ → Bool
circles cs rs w v = bytes_eq v w || refers_at rs (number cs v) (number cs w)

-- class v is known, and is class f or refers to it
abbrev pub reaches : List (List ℕ) → List ClassRecord → List ℕ → ℕ → Bool
reaches cs rs v f = known cs v && (number cs v == f || refers_at rs (number cs v) f)
