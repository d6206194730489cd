-- Where reading a file stopped, and the report that this comes to. Assumes nothing.
use Rattle.std.specs.Prelude.{◌≡◌, ℕ, ◌⊎◌, List, [], ◌++◌, Ok, Err, Result}
use Rattle.lines.specs.declared.located.Located.{Located}
use Rattle.names.specs.Refusal.{at}
use Rattle.names.specs.declared.refusals.Refusal.TheVariants.{NoMemory}
use Rattle.register.specs.Reading.{text_of}
use Rattle.register.specs.Report.{Report, fault_at}
use Rattle.register.specs.declared.readings.Reading.{Reading}

-- the line that tells where reading stopped, if it did
abbrev pub told_by : Result (Unit {0}) Located → List ℕ
told_by (Ok u) = []
told_by (Err l) = fault_at l.line l.fault

-- memory was wanting
abbrev pub Wanting : Result (Unit {0}) Located → Type 0
Wanting (Ok u) = ⊥
Wanting (Err l) = l.fault ≡ at 0 NoMemory

-- what was to be reported is what was read and then this fault, unless memory was wanting
abbrev pub Walked : Report → Result (Unit {0}) Located → Reading → Type 0
Walked whole r after = Wanting r ⊎ (whole ≡ record { text = text_of after ++ told_by r; tally = after.tally })
