-- What the tables hold, and what entering a name or a node makes of it. Assumes nothing.
use Rattle.std.specs.Prelude.{◌≡◌, ℕ, Bool, true, false, cond, ◌||◌, List, [], ◌∷◌, ◌++◌, map, length, vec_items, nat_lt}
use Rattle.distinct.specs.Numbering.{number, known}
use Rattle.tables.specs.declared.tables.Tables.{Tables}
use Rattle.terms.specs.Kinds.{show_node}
use Rattle.terms.specs.Nodes.{name_bytes}
use Rattle.terms.specs.declared.nodes.Node.{Node}
use Rattle.terms.specs.declared.nodes.Sort.{Sort}
use Rattle.terms.specs.declared.nodes.Sort.TheVariants.{OfClass, OfLink}

pub record Book : Type 0 where
  pub classes : List (List ℕ)
  pub class_limit : ℕ
  pub links : List (List ℕ)
  pub link_limit : ℕ
  pub nodes : List Node
  pub node_limit : ℕ
  -- a new name, a new node, found no place
  pub names_full : Bool
  pub terms_full : Bool

-- The entry x, which shows y, among xs, which show ys: a new one is added behind the others where there is a place.
abbrev pub keep : {X : Type 0} → ℕ → List (List ℕ) → List ℕ → List X → X → List X
keep limit ys y xs x = cond (known ys y) xs (cond (nat_lt (length ys) limit) (xs ++ x ∷ []) xs)

-- it is new, and all places are taken
abbrev pub lacks : ℕ → List (List ℕ) → List ℕ → Bool
lacks limit ys y = cond (known ys y) false (cond (nat_lt (length ys) limit) false true)

-- its number, or 0 where it found no place
abbrev pub placed : ℕ → List (List ℕ) → List ℕ → ℕ
placed limit ys y = cond (lacks limit ys y) 0 (number ys y)

-- by the sort of the name
abbrev pub names_of : Sort → Book → List (List ℕ)
names_of OfClass b = b.classes
names_of OfLink b = b.links

abbrev pub limit_of : Sort → Book → ℕ
limit_of OfClass b = b.class_limit
limit_of OfLink b = b.link_limit

-- the book with that name put in where it fits
abbrev pub with_class : List ℕ → Book → Book
with_class w b = record { classes = keep b.class_limit b.classes w b.classes w; class_limit = b.class_limit; links = b.links; link_limit = b.link_limit; nodes = b.nodes; node_limit = b.node_limit; names_full = b.names_full; terms_full = b.terms_full }

abbrev pub with_link : List ℕ → Book → Book
with_link w b = record { classes = b.classes; class_limit = b.class_limit; links = keep b.link_limit b.links w b.links w; link_limit = b.link_limit; nodes = b.nodes; node_limit = b.node_limit; names_full = b.names_full; terms_full = b.terms_full }

abbrev pub book_with : Sort → List ℕ → Book → Book
book_with OfClass w b = with_class w b
book_with OfLink w b = with_link w b

-- and the flag raised where it found no place
abbrev pub labelled : Sort → List ℕ → Book → Book
labelled k w b = record { classes = (book_with k w b).classes; class_limit = b.class_limit; links = (book_with k w b).links; link_limit = b.link_limit; nodes = b.nodes; node_limit = b.node_limit; names_full = b.names_full || lacks (limit_of k b) (names_of k b) w; terms_full = b.terms_full }

abbrev pub label_of : Sort → List ℕ → Book → ℕ
label_of k w b = placed (limit_of k b) (names_of k b) w

abbrev pub noded : Node → Book → Book
noded n b = record { classes = b.classes; class_limit = b.class_limit; links = b.links; link_limit = b.link_limit; nodes = keep b.node_limit (map show_node b.nodes) (show_node n) b.nodes n; node_limit = b.node_limit; names_full = b.names_full; terms_full = b.terms_full || lacks b.node_limit (map show_node b.nodes) (show_node n) }

abbrev pub node_of : Node → Book → ℕ
node_of n b = placed b.node_limit (map show_node b.nodes) (show_node n)

abbrev pub Labels : Book → Sort → List ℕ → ℕ → Book → Type 0
Labels b k w i c = (c ≡ labelled k w b) × (i ≡ label_of k w b)

abbrev pub Makes : Book → Node → ℕ → Book → Type 0
Makes b n i c = (c ≡ noded n b) × (i ≡ node_of n b)

-- tables at rest, with both flags down
abbrev pub book_of : Tables → Book
book_of s = record { classes = map name_bytes (vec_items s.classes.items); class_limit = s.classes.limit; links = map name_bytes (vec_items s.links.items); link_limit = s.links.limit; nodes = vec_items s.nodes.items; node_limit = s.nodes.limit; names_full = false; terms_full = false }

-- t holds what s holds, under the same numbers and within the same limits
abbrev pub HoldsSame : Tables → Tables → Type 0
HoldsSame s t =
    (vec_items t.classes.items ≡ vec_items s.classes.items)
    × (t.classes.limit ≡ s.classes.limit)
    × (vec_items t.links.items ≡ vec_items s.links.items)
    × (t.links.limit ≡ s.links.limit)
    × (vec_items t.nodes.items ≡ vec_items s.nodes.items)
    × (t.nodes.limit ≡ s.nodes.limit)
