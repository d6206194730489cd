-- The tables while a term is read into them, as a book. Assumes nothing.
use Rattle.tables.specs.Book.{Book, book_of}
use Rattle.tables.specs.declared.building.Building.{Building}

abbrev pub built : Building → Book
built s = let b = book_of s.tables.now in record { classes = b.classes; class_limit = b.class_limit; links = b.links; link_limit = b.link_limit; nodes = b.nodes; node_limit = b.node_limit; names_full = s.names_full; terms_full = s.terms_full }
