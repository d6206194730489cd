-- The law above the test for circles: a gloss is refused for a circle exactly if with it a class would refer to itself.
-- Assumes nothing.
use Rattle.std.specs.Prelude.{◌≡◌, ℕ, true, false, List}
use Rattle.distinct.specs.Numbering.{number}
use Rattle.glossary.specs.Refers.{Refers}
use Rattle.sheet.specs.Content.{Content, defined}
use Rattle.sheet.specs.Outcome.{mentions, circular}
use Rattle.terms.specs.Term.{Spelled}
use Rattle.vocabulary.specs.Lexicon.{Lexicon, with_class, with_term, term_of}

-- no class refers to itself through glosses
abbrev pub NoCircle : Content → Type 0
NoCircle k = (c : ℕ) → Refers (mentions k) c c → ⊥

-- the vocabulary with the class w and the term t, whatever the limits
abbrev pub words_with : Content → List ℕ → Spelled → Lexicon
words_with k w t = with_term t (with_class w k.words)

-- what k would be with the class w glossed by t
abbrev pub tried : Content → List ℕ → Spelled → Content
tried k w t = let j = words_with k w t in defined j (number j.classes w) (term_of j t) k

pub record CircleLaw (k : Content) (w : List ℕ) (t : Spelled) : Type 0 where
  -- told: the class w would refer to itself
  pub told : circular k w t ≡ true → Refers (mentions (tried k w t)) (number (words_with k w t).classes w) (number (words_with k w t).classes w)
  -- not told: no class would
  pub none : circular k w t ≡ false → NoCircle (tried k w t)
