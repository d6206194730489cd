-- How many of the lines kept are statements, and whether one more line has a place. Assumes nothing.
use Rattle.std.specs.Prelude.{ℕ, ◌-◌, Bool, true, false, cond, List, length, count_by, nat_lt}
use Rattle.sheet.specs.declared.line.Line.{Line}
use Rattle.sheet.specs.declared.line.Line.TheVariants.{Statement, Tie}
use Rattle.sheet.specs.declared.lines.TheConstants.{STATEMENTS, TIES}

abbrev pub is_statement : Line → Bool
is_statement (Statement a t) = true
is_statement (Tie l a b) = false

abbrev pub statements_in : List Line → ℕ
statements_in ls = count_by is_statement ls

-- there is a place for this line behind the others
abbrev pub fits : Line → List Line → Bool
fits line ls = cond (is_statement line) (nat_lt (statements_in ls) STATEMENTS) (nat_lt (length ls - statements_in ls) TIES)
