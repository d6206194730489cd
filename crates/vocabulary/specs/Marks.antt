-- What a mark says of the tables at which it was taken. Assumes nothing.
use Rattle.std.specs.Prelude.{◌≡◌, false, length}
use Rattle.vocabulary.specs.Held.{Held}
use Rattle.vocabulary.specs.declared.words.Mark.{Mark}

pub record MarkOf (m : Mark) (h : Held) : Type 0 where
  pub classes : m.tables.classes ≡ length h.book.classes
  pub links : m.tables.links ≡ length h.book.links
  pub nodes : m.tables.nodes ≡ length h.book.nodes
  pub names_full : h.book.names_full ≡ false
  pub terms_full : h.book.terms_full ≡ false
  pub items : m.items ≡ length h.items
