-- What the tables of a vocabulary hold, and when they are in order. Assumes nothing.
use Rattle.std.specs.Prelude.{◌≡◌, ℕ, ◌≤◌, List, map, length, Ok, Err, vec_items, Result, MatchResult}
use Rattle.distinct.specs.Numbering.{Apart}
use Rattle.names.specs.declared.refusals.Fault.{Fault}
use Rattle.tables.specs.Book.{Book, book_of}
use Rattle.tables.specs.Enters.{Orderly, Within}
use Rattle.tables.specs.Entry.{Front}
use Rattle.tables.specs.Texts.{texts}
use Rattle.terms.specs.Nodes.{name_bytes}
use Rattle.vocabulary.specs.Lexicon.{Lexicon}
use Rattle.vocabulary.specs.declared.words.Words.{Words}

pub record Held : Type 0 where
  pub book : Book
  pub items : List (List ℕ)
  pub item_limit : ℕ

abbrev pub held_by : Words → Held
held_by w = record { book = book_of w.tables; items = map name_bytes (vec_items w.items.items); item_limit = w.items.limit }

abbrev pub lexicon : Held → Lexicon
lexicon h = record { classes = h.book.classes; links = h.book.links; items = h.items; terms = texts h.book }

-- Parts before wholes, no repeats, all numbers in range, and the limits that every sheet has.
pub record InOrder (h : Held) : Type 0 where
  pub sound : Orderly h.book
  pub room : Within h.book
  pub items : Apart h.items
  pub few : length h.items ≤ 32
  pub class_limit : h.book.class_limit ≡ 64
  pub link_limit : h.book.link_limit ≡ 16
  pub node_limit : h.book.node_limit ≡ 256
  pub item_limit : h.item_limit ≡ 32

-- h' has all that h had, where it was
pub record Grew (h h' : Held) : Type 0 where
  pub classes : Front h.book.classes h'.book.classes
  pub links : Front h.book.links h'.book.links
  pub nodes : Front h.book.nodes h'.book.nodes
  pub items : Front h.items h'.items
  pub class_limit : h'.book.class_limit ≡ h.book.class_limit
  pub link_limit : h'.book.link_limit ≡ h.book.link_limit
  pub node_limit : h'.book.node_limit ≡ h.book.node_limit
  pub item_limit : h'.item_limit ≡ h.item_limit

-- A step with outcome o answered r and left h', which has all that h had: what it gave is as P says.
pub record Placed {X : Type 0} (o : Result Lexicon Fault) (r : Result X Fault) (P : X → Held → Type 0) (h h' : Held) : Type 0 where
  pub grew : Grew h h'
  pub told : MatchResult r (λ x. (o ≡ Ok (lexicon h')) × P x h') (λ e. o ≡ Err e)
