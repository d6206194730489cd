-- When the tables of a sheet are in order: what every sheet keeps, and the layers above lean on. Assumes nothing.
use Rattle.std.specs.Prelude.{◌≡◌, ℕ, ◌<◌, ◌≤◌, Bool, true, false, ◌&&◌, length, is_some, Some, nat_lt}
use Rattle.std.specs.List.{list_all}
use Rattle.glossary.specs.Flags.{Follows, Loopless, Bounded}
use Rattle.sheet.specs.Outcome.{mentions}
use Rattle.sheet.specs.Store.{Store, content_of}
use Rattle.sheet.specs.declared.line.Line.{Line}
use Rattle.sheet.specs.declared.line.Line.TheVariants.{Statement, Tie}
use Rattle.vocabulary.specs.Held.{InOrder}

-- a line's numbers are among so many links, items and nodes
abbrev pub within : ℕ → ℕ → ℕ → Line → Bool
within links items nodes (Statement a t) = nat_lt a items && nat_lt t nodes
within links items nodes (Tie l a b) = nat_lt l links && (nat_lt a items && nat_lt b items)

pub record Fair (s : Store) : Type 0 where
  pub held : InOrder s.held
  -- a gloss is a node, and only a class that is known has one
  pub glosses : (c g : ℕ) → s.gloss c ≡ Some g → g < length s.held.book.nodes
  pub plain : (c : ℕ) → length s.held.book.classes ≤ c → is_some (s.gloss c) ≡ false
  -- the flags say which class refers to which, and none refers to itself
  pub follows : Follows (mentions (content_of s)) s.refers
  pub loopless : Loopless s.refers
  pub bounded : Bounded (length s.held.book.classes) s.refers
  pub lines : list_all (within (length s.held.book.links) (length s.held.items) (length s.held.book.nodes)) s.lines ≡ true
