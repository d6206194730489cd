-- Words, and what a word is read as. Assumes nothing.
use Rattle.std.specs.Prelude.{ℕ, suc, ◌-◌, cond, ◌&&◌, List, [], ◌∷◌, take, drop, Some, None, Option, ◌==◌, nat_le}
use Rattle.terms.specs.declared.words.Join.TheVariants.{And, Or}
use Rattle.terms.specs.declared.words.Modality.{Modality}
use Rattle.terms.specs.declared.words.Modality.TheVariants.{May, Must}
use Rattle.terms.specs.declared.words.Operator as code
use Rattle.terms.specs.declared.words.Operator.TheVariants.{Top, Bottom, Not, Join as Joining, Quantifier as Quantifying}
use Rattle.terms.specs.declared.words.Quantifier.TheVariants.{Exists, Forall}

-- A word reaches to the next space (byte 32), or to the end.
abbrev pub word_length : List ℕ → ℕ
word_length [] = 0
word_length (b ∷ bs) = cond (b == 32) 0 (suc (word_length bs))

abbrev pub first_word : List ℕ → List ℕ
first_word s = take (word_length s) s

abbrev pub after_word : List ℕ → List ℕ
after_word s = drop (word_length s) s

pub data Word : Type 0 where
  operator : code.Operator → Word
  reader : Modality → ℕ → Word
  name : List ℕ → Word

-- What the first byte of a word says of it.
pub data Sign : Type 0 where
  bare : code.Operator → Sign
  modal : Modality → Sign
  letter : Sign

abbrev pub sign : ℕ → Sign
sign b =
    cond (b == 42) (bare Top)
    (cond (b == 33) (bare Bottom)
    (cond (b == 45) (bare Not)
    (cond (b == 38) (bare (Joining And))
    (cond (b == 124) (bare (Joining Or))
    (cond (b == 43) (bare (Quantifying Exists))
    (cond (b == 61) (bare (Quantifying Forall))
    (cond (b == 60) (modal May)
    (cond (b == 91) (modal Must) letter))))))))

-- The rest of a word that the sign begins: none for a bare operator, one digit from 1 to 8 for a reader's.
abbrev pub completed : Sign → ℕ → List ℕ → Option Word
completed (bare op) b [] = Some (operator op)
completed (bare op) b (c ∷ cs) = None
completed (modal op) b [] = None
completed (modal op) b (d ∷ []) = cond (nat_le 49 d && nat_le d 56) (Some (reader op (d - 48))) None
completed (modal op) b (d ∷ c ∷ cs) = None
completed letter b cs = Some (name (b ∷ cs))

-- What a word is, where it isn't a link's; none for a word that begins as an operator and isn't one.
abbrev pub meant : List ℕ → Option Word
meant [] = Some (name [])
meant (b ∷ bs) = completed (sign b) b bs
