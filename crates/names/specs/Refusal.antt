-- What a refusal tells: its number, and its place in the term. Assumes nothing.
use Rattle.std.specs.Prelude.{ℕ}
use Rattle.names.specs.declared.refusals.Fault.{Fault}
use Rattle.names.specs.declared.refusals.Refusal.{Refusal}
use Rattle.names.specs.declared.refusals.Refusal.TheVariants.{BadName, BadOperator, EndsEarly, LeftOver, StraySpace, TooDeep, UnknownLetter, WrongStage, FieldCount, Unended, FileTooLong, ShortBuffer, NamesFull, TermsFull, GlossedAlready, Circle, LinesFull, NoMemory}

abbrev pub number : Refusal → ℕ
number (BadName p) = 1
number (BadOperator p) = 2
number (EndsEarly p) = 3
number (LeftOver p) = 4
number (StraySpace p) = 5
number (TooDeep p) = 6
number UnknownLetter = 7
number WrongStage = 8
number FieldCount = 9
number Unended = 10
number FileTooLong = 11
number ShortBuffer = 12
number NamesFull = 14
number TermsFull = 15
number GlossedAlready = 16
number Circle = 17
number LinesFull = 18
number NoMemory = 100

-- in bytes from 0; 0 where the refusal is not about a place
abbrev pub place_of : Refusal → ℕ
place_of (BadName p) = p
place_of (BadOperator p) = p
place_of (EndsEarly p) = p
place_of (LeftOver p) = p
place_of (StraySpace p) = p
place_of (TooDeep p) = p
place_of UnknownLetter = 0
place_of WrongStage = 0
place_of FieldCount = 0
place_of Unended = 0
place_of FileTooLong = 0
place_of ShortBuffer = 0
place_of NamesFull = 0
place_of TermsFull = 0
place_of GlossedAlready = 0
place_of Circle = 0
place_of LinesFull = 0
place_of NoMemory = 0

-- a refusal about a field, as a call tells it
abbrev pub at : ℕ → Refusal → Fault
at f e = record { field = f; refusal = e }
