-- Reading a term from left to right, with the fault that is met first. Assumes nothing.
-- That this is the language of `written`, both ways, is a law on the contract of `Expression::read`.
use Rattle.std.specs.Prelude.{ℕ, zero, suc, ◌+◌, ◌-◌, cond, List, [], ◌∷◌, length, Some, None, Ok, Err, Option, Result, ◌==◌}
use Rattle.terms.specs.Forms.{joins, quantifies, modalizes}
use Rattle.names.specs.Name.{flaw}
use Rattle.terms.specs.Term.{Spelled, top, bottom, class, neg}
use Rattle.terms.specs.Word.{Word, operator, reader, name, first_word, after_word, meant}
use Rattle.names.specs.declared.refusals.Refusal.{Refusal}
use Rattle.names.specs.declared.refusals.Refusal.TheVariants.{BadName, BadOperator, EndsEarly, LeftOver, StraySpace, TooDeep}
use Rattle.terms.specs.declared.words.Operator.{Operator}
use Rattle.terms.specs.declared.words.Operator.TheVariants.{Top, Bottom, Not, Join as Joining, Quantifier as Quantifying}

-- The first step, and the next with what it gave; the first refusal ends it.
abbrev pub after : {X Y : Type 0} → Result X Refusal → (X → Result Y Refusal) → Result Y Refusal
after (Ok x) f = f x
after (Err e) f = Err e

-- A term and what is left of the text behind it.
abbrev pub Parsed : Type 0
Parsed = Result (Spelled × List ℕ) Refusal

-- the word w as a name, where it begins at p and has this flaw, if any
abbrev pub named : ℕ → List ℕ → Option ℕ → Result (List ℕ) Refusal
named p w None = Ok w
named p w (Some i) = Err (BadName (p + i))

abbrev pub only_class : ℕ → List ℕ → List ℕ → Parsed
only_class p w behind = after (named p w (flaw 0 w)) (λ n. Ok (class n, behind))

module _ (total : ℕ) where
  -- the place in the text, of `total` bytes, at which `rest` begins
  abbrev pub place : List ℕ → ℕ
  place rest = total - length rest

  -- from the end of a word to the start of the next
  abbrev pub gap : List ℕ → Result (List ℕ) Refusal
  gap [] = Err (EndsEarly total)
  gap (s ∷ []) = Err (StraySpace (place (s ∷ [])))
  gap (s ∷ b ∷ bs) = cond (b == 32) (Err (StraySpace (place (b ∷ bs)))) (Ok (b ∷ bs))

  abbrev pub name_at : List ℕ → List ℕ → Result (List ℕ) Refusal
  name_at rest w = named (place rest) w (flaw 0 w)

  -- the parts behind a word, each read by `sub`
  module _ (sub : List ℕ → Parsed) (behind : List ℕ) where
    abbrev pub part : Parsed
    part = after (gap behind) sub

    abbrev pub one_part : (Spelled → Spelled) → Parsed
    one_part make = after part (λ p. Ok (make p.0, p.1))

  module _ (sub : List ℕ → Parsed) (behind : List ℕ) where
    abbrev pub two_parts : (Spelled → Spelled → Spelled) → Parsed
    two_parts make = after (part sub behind) (λ p. one_part sub p.1 (make p.0))

    abbrev pub linked : (List ℕ → Spelled → Spelled) → Parsed
    linked make = after (gap behind) (λ k. after (name_at k (first_word k)) (λ r. one_part sub (after_word k) (make r)))

    -- a term by its operator
    abbrev pub operated : Operator → Parsed
    operated Top = Ok (top, behind)
    operated Bottom = Ok (bottom, behind)
    operated Not = one_part sub behind neg
    operated (Joining j) = two_parts (joins j)
    operated (Quantifying q) = linked (quantifies q)

  -- a term by its first word
  abbrev pub parts : (List ℕ → Parsed) → List ℕ → Option Word → Parsed
  parts sub rest None = Err (BadOperator (place rest))
  parts sub rest (Some (name w)) = only_class (place rest) w (after_word rest)
  parts sub rest (Some (operator op)) = operated sub (after_word rest) op
  parts sub rest (Some (reader m i)) = one_part sub (after_word rest) (modalizes m i)

  -- A term at the start of `rest`, where words may still be nested `room` deep.
  unfoldable pub parse : ℕ → List ℕ → Parsed
  parse zero rest = Err (TooDeep (place rest))
  parse (suc room) rest = parts (parse room) rest (meant (first_word rest))

  -- Nothing may stand behind a whole term.
  abbrev pub ended : Spelled → List ℕ → Result Spelled Refusal
  ended t [] = Ok t
  ended t (s ∷ []) = Err (StraySpace (place (s ∷ [])))
  ended t (s ∷ b ∷ bs) = cond (b == 32) (Err (StraySpace (place (b ∷ bs)))) (Err (LeftOver (place (b ∷ bs))))

-- What a text is read as: a term, or the fault at the leftmost place.
abbrev pub begun : List ℕ → Result (List ℕ) Refusal
begun [] = Err (EndsEarly 0)
begun (b ∷ bs) = cond (b == 32) (Err (StraySpace 0)) (Ok (b ∷ bs))

abbrev pub reading : List ℕ → Result Spelled Refusal
reading s = after (begun s) (λ k. after (parse (length s) 32 k) (λ p. ended (length s) p.0 p.1))
