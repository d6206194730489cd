-- What the tables of a sheet hold, and the content they stand for. Assumes nothing.
use Rattle.std.specs.Prelude.{ℕ, Bool, List, map, vec_items, Option}
use Rattle.std.specs.Option.{option_map}
use Rattle.glossary.specs.Records.{gloss_at, refers_at}
use Rattle.sheet.specs.Content.{Assertion, stated, tied, Content}
use Rattle.sheet.specs.declared.line.Line.{Line}
use Rattle.sheet.specs.declared.line.Line.TheVariants.{Statement, Tie}
use Rattle.sheet.specs.declared.pages.Page.{Page}
use Rattle.terms.specs.Nodes.{tree}
use Rattle.terms.specs.declared.nodes.Node.{Node}
use Rattle.vocabulary.specs.Held.{Held, held_by, lexicon}

pub record Store : Type 0 where
  pub held : Held
  -- the node that glosses a class
  pub gloss : ℕ → Option ℕ
  pub refers : ℕ → ℕ → Bool
  pub lines : List Line

abbrev pub store_of : Page → Store
store_of p = record { held = held_by p.vocabulary.words; gloss = gloss_at (vec_items p.glossary.records); refers = refers_at (vec_items p.glossary.records); lines = vec_items p.lines.items }

-- what a line says, where nodes stand for terms
abbrev pub asserted : List Node → Line → Assertion
asserted ns (Statement a t) = stated a (tree ns t)
asserted ns (Tie l a b) = tied l a b

abbrev pub content_of : Store → Content
content_of s = record { words = lexicon s.held; gloss = λ c. option_map (tree s.held.book.nodes) (s.gloss c); lines = map (asserted s.held.book.nodes) s.lines }
