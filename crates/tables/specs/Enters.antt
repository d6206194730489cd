-- What entering a term into tables that are in order promises, by the writings of terms. Assumes nothing.
use Rattle.std.specs.Prelude.{◌≡◌, ℕ, ◌<◌, ◌≤◌, true, [], map, length, slice_index_or}
use Rattle.distinct.specs.Numbering.{Apart}
use Rattle.names.specs.Name.{legal}
use Rattle.tables.specs.Book.{Book}
use Rattle.tables.specs.Entry.{Front}
use Rattle.tables.specs.Texts.{texts, parts}
use Rattle.tables.specs.Vocabulary.{with_names, class_names, link_names, numbered}
use Rattle.terms.specs.Kinds.{show_node}
use Rattle.terms.specs.Nodes.{ordered, tree}
use Rattle.terms.specs.Term.{Spelled}

-- names and nodes are within their limits
pub record Within (b : Book) : Type 0 where
  pub classes : length b.classes ≤ b.class_limit
  pub links : length b.links ≤ b.link_limit
  pub nodes : length b.nodes ≤ b.node_limit

-- Names are names, each once; the nodes are in order, parts before wholes, each once, and no two stand for one term.
pub record Orderly (b : Book) : Type 0 where
  pub fair : ordered (length b.classes) (length b.links) 0 b.nodes ≡ true
  pub apart : Apart (map show_node b.nodes)
  pub classes_apart : Apart b.classes
  pub links_apart : Apart b.links
  pub classes_legal : (k : ℕ) → k < length b.classes → legal (slice_index_or b.classes k []) ≡ true
  pub links_legal : (k : ℕ) → k < length b.links → legal (slice_index_or b.links k []) ≡ true
  pub different : Apart (texts b)

-- The term t was entered into b, which left c and gave it the number i: its names and its parts are put behind where
-- they are new, all that b had is where it was, and node i of c stands for t.
pub record Enters (b : Book) (t : Spelled) (i : ℕ) (c : Book) : Type 0 where
  pub classes : c.classes ≡ with_names b.classes (class_names t)
  pub links : c.links ≡ with_names b.links (link_names t)
  pub terms : texts c ≡ with_names (texts b) (parts t)
  pub nodes : Front b.nodes c.nodes
  pub limits : (c.class_limit ≡ b.class_limit) × (c.link_limit ≡ b.link_limit) × (c.node_limit ≡ b.node_limit)
  pub sound : Orderly c
  pub room : Within c
  pub below : i < length c.nodes
  pub reads : tree c.nodes i ≡ numbered c.classes c.links t
