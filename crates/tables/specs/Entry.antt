-- What entering a term promises: the law above `entered`. Assumes nothing.
use Rattle.std.specs.Prelude.{◌≡◌, ℕ, ◌<◌, ◌≤◌, true, false, List, ◌++◌, map, length}
use Rattle.distinct.specs.Numbering.{Apart}
use Rattle.tables.specs.Book.{Book}
use Rattle.tables.specs.Entered.{entered}
use Rattle.tables.specs.Vocabulary.{with_names, class_names, link_names, numbered}
use Rattle.terms.specs.Kinds.{show_node}
use Rattle.terms.specs.Nodes.{ordered, tree}
use Rattle.terms.specs.Term.{Term, Spelled}

-- ys begins with xs: what was numbered keeps its number
abbrev pub Front : {X : Type 0} → List X → List X → Type 0
Front {X} xs ys = (zs : List X) × (ys ≡ xs ++ zs)

-- the names are within their limits
pub record Room (b : Book) : Type 0 where
  pub classes : length b.classes ≤ b.class_limit
  pub links : length b.links ≤ b.link_limit

-- the nodes are in order, parts before wholes, each once
pub record Sound (b : Book) : Type 0 where
  pub fair : ordered (length b.classes) (length b.links) 0 b.nodes ≡ true
  pub apart : Apart (map show_node b.nodes)

-- the names of b, with those of a term behind them
pub record Named (b c : Book) (cs ls : List (List ℕ)) : Type 0 where
  pub was : b.names_full ≡ false
  pub classes : c.classes ≡ with_names b.classes cs
  pub links : c.links ≡ with_names b.links ls
  pub class_fits : length c.classes ≤ c.class_limit
  pub link_fits : length c.links ≤ c.link_limit

-- node i of c stands for t, and all that b had is where it was
pub record Says (b c : Book) (i : ℕ) (t : Term ℕ) : Type 0 where
  pub classes : Front b.classes c.classes
  pub links : Front b.links c.links
  pub nodes : Front b.nodes c.nodes
  pub sound : Sound c
  pub below : i < length c.nodes
  pub reads : tree c.nodes i ≡ t

-- The term t was entered into b, which left c and gave it the number i.
pub record Entry (t : Spelled) (b : Book) (i : ℕ) (c : Book) : Type 0 where
  pub book : c ≡ (entered t b).book
  pub number : i ≡ (entered t b).number
  -- no name lacks a place exactly if all of them are within the limits, and then they are put behind in their order
  pub fits : b.names_full ≡ false → length (with_names b.classes (class_names t)) ≤ b.class_limit → length (with_names b.links (link_names t)) ≤ b.link_limit → c.names_full ≡ false
  pub names : Room b → c.names_full ≡ false → Named b c (class_names t) (link_names t)
  -- where nothing lacked a place, node i is the term over its names' numbers
  pub term : Sound b → Room b → c.names_full ≡ false → c.terms_full ≡ false → Says b c i (numbered c.classes c.links t)
