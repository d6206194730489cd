-- What reading a whole text answers, in words: the promise of `read`. Assumes nothing.
use Rattle.std.specs.Prelude.{◌≡◌, ℕ, suc, ◌<◌, List, ◌++◌, length, take, Ok, Err, ◌≢◌}
use Rattle.names.specs.Refusal.{place_of}
use Rattle.terms.specs.Parse.{reading}
use Rattle.terms.specs.Term.{Spelled, written, Readable}
use Rattle.names.specs.declared.refusals.Refusal.{Refusal}
use Rattle.names.specs.declared.refusals.Refusal.TheVariants.{BadName, BadOperator, EndsEarly, LeftOver, StraySpace, TooDeep, UnknownLetter, WrongStage, FieldCount, Unended, FileTooLong, ShortBuffer, NamesFull, TermsFull, GlossedAlready, Circle, LinesFull, NoMemory}

-- The text s is read as t: t is a term that can be read, its writing is s, and no other term's is.
pub record IsRead (s : List ℕ) (t : Spelled) : Type 0 where
  pub exact : reading s ≡ Ok t
  pub readable : Readable t
  pub text : written t ≡ s
  pub only : (u : Spelled) → Readable u → written u ≡ s → u ≡ t

-- A fault that no more text can mend: a bad byte in a name, a word too deep, a word left over.
abbrev pub Firm : Refusal → Type 0
Firm (BadName p) = Unit {0}
Firm (BadOperator p) = ⊥
Firm (EndsEarly p) = ⊥
Firm (LeftOver p) = Unit {0}
Firm (StraySpace p) = ⊥
Firm (TooDeep p) = Unit {0}
Firm UnknownLetter = ⊥
Firm WrongStage = ⊥
Firm FieldCount = ⊥
Firm Unended = ⊥
Firm FileTooLong = ⊥
Firm ShortBuffer = ⊥
Firm NamesFull = ⊥
Firm TermsFull = ⊥
Firm GlossedAlready = ⊥
Firm Circle = ⊥
Firm LinesFull = ⊥
Firm NoMemory = ⊥

-- The text s is refused: it is no term's writing, and e is the fault at the leftmost place. A firm fault is told at the
-- first byte that can't be mended: every text that goes as far has the same fault there, whatever follows.
pub record IsRefused (s : List ℕ) (e : Refusal) : Type 0 where
  pub exact : reading s ≡ Err e
  pub none : (t : Spelled) → Readable t → written t ≢ s
  pub firm : Firm e → place_of e < length s → (u : List ℕ) → reading (take (suc (place_of e)) s ++ u) ≡ Err e
