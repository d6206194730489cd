-- The word that a token stands for: a name by its bytes. Assumes nothing.
use Rattle.std.specs.Prelude.{◌≡◌, ℕ, List, drop, Some, None, Result, MatchResult, slice_index}
use Rattle.names.specs.declared.refusals.Refusal.{Refusal}
use Rattle.names.specs.declared.refusals.Refusal.TheVariants.{BadOperator}
use Rattle.terms.specs.Word.{Word, operator, reader, name, Sign, completed}
use Rattle.terms.specs.declared.rests.Word as code
use Rattle.terms.specs.declared.words.Token.{Token}
use Rattle.terms.specs.declared.words.Token.TheVariants.{Operator, Reader, Name}

abbrev pub seen : Token → Word
seen (Operator op) = operator op
seen (Reader op i) = reader op i
seen (Name bytes place) = name bytes.now

-- a name's token is the whole word w, at the place p
abbrev pub Placed : List ℕ → ℕ → Token → Type 0
Placed w p (Operator op) = Unit {0}
Placed w p (Reader op i) = Unit {0}
Placed w p (Name bytes place) = (bytes.now ≡ w) × (place ≡ p)

-- what a word is whose first byte says this of it
abbrev pub Completes : Sign → code.Word → Result Token Refusal → Type 0
Completes s w r =
    MatchResult r (λ t. completed s (slice_index w.bytes.now 0) (drop 1 w.bytes.now) ≡ Some (seen t)) (λ e. (completed s (slice_index w.bytes.now 0) (drop 1 w.bytes.now) ≡ None) × (e ≡ BadOperator w.place))
