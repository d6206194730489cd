-- What a sheet holds: the accepted lines, in the subject's words. A sheet is a knowledge base: names, definitions of
-- classes, assertions about items. Assumes nothing.
use Rattle.std.specs.Prelude.{ℕ, suc, cond, List, [], ◌∷◌, ◌++◌, Some, None, Option, ◌==◌}
use Rattle.terms.specs.Term.{Term}
use Rattle.vocabulary.specs.Lexicon.{Lexicon, none}

-- What a line says of items, over the numbers of names.
pub data Assertion : Type 0 where
  -- this term is true of this item
  stated : ℕ → Term ℕ → Assertion
  -- this link joins the first item to the second
  tied : ℕ → ℕ → ℕ → Assertion

pub record Content : Type 0 where
  -- names by number, and the different terms
  pub words : Lexicon
  -- the term that a class is defined by, if one is
  pub gloss : ℕ → Option (Term ℕ)
  -- statements and ties as accepted: the first is line 1
  pub lines : List Assertion

abbrev pub empty : Content
empty = record { words = none; gloss = λ _. None; lines = [] }

-- with class c defined by t, over the vocabulary j
abbrev pub defined : Lexicon → ℕ → Term ℕ → Content → Content
defined j c t k = record { words = j; gloss = λ e. cond (e == c) (Some t) (k.gloss e); lines = k.lines }

-- with one line more, over the vocabulary j
abbrev pub with_line : Lexicon → Assertion → Content → Content
with_line j l k = record { words = j; gloss = k.gloss; lines = k.lines ++ l ∷ [] }

abbrev pub statements : List Assertion → ℕ
statements [] = 0
statements (stated a t ∷ ls) = suc (statements ls)
statements (tied l a b ∷ ls) = statements ls

abbrev pub ties : List Assertion → ℕ
ties [] = 0
ties (stated a t ∷ ls) = ties ls
ties (tied l a b ∷ ls) = suc (ties ls)
