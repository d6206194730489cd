-- The terms that parts stand for, and what is written for them. Assumes nothing.
use Rattle.std.specs.Prelude.{◌≡◌, ℕ, ◌+◌, ◌-◌, ◌<◌, ◌≤◌, true, List, [], ◌∷◌, ◌++◌, map, length, slice_index_or, vec_items}
use Rattle.terms.specs.Nodes.{name_bytes, ordered, term_at}
use Rattle.terms.specs.Term.{Spelled, written}
use Rattle.expressions.specs.declared.parts.Parts.{Parts}
use Rattle.names.specs.declared.named.Name.{Name}
use Rattle.terms.specs.declared.nodes.Node.{Node}
use Rattle.terms.specs.declared.nodes.Node.TheVariants.{Top, Bottom, Class, Not, And, Or, Exists, Forall, May, Must}

-- parts before wholes, and a name for each number
abbrev pub Ordered : Parts → Type 0
Ordered p = ordered (length (vec_items p.classes)) (length (vec_items p.links)) 0 (vec_items p.nodes) ≡ true

-- the term of node i
abbrev pub term_in : Parts → ℕ → Spelled
term_in p i = term_at (vec_items p.classes) (vec_items p.links) (vec_items p.nodes) i

-- that of the last node
abbrev pub whole : Parts → Spelled
whole p = term_in p (length (vec_items p.nodes) - 1)

abbrev pub name_of : List Name → ℕ → List ℕ
name_of ns k = slice_index_or (map name_bytes ns) k []

-- what is written for node i
abbrev pub text_at : Parts → ℕ → List ℕ
text_at p i = written (term_in p i)

-- n is the node i: its names and readers are known, its parts are before it, and what is written for it
abbrev pub Spells : Parts → ℕ → Node → Type 0
Spells p i Top = text_at p i ≡ 42 ∷ []
Spells p i Bottom = text_at p i ≡ 33 ∷ []
Spells p i (Class c) = (c < length (vec_items p.classes)) × (text_at p i ≡ name_of (vec_items p.classes) c)
Spells p i (Not a) = (a < i) × (text_at p i ≡ 45 ∷ 32 ∷ text_at p a)
Spells p i (And a b) = (a < i) × (b < i) × (text_at p i ≡ (38 ∷ 32 ∷ text_at p a) ++ 32 ∷ text_at p b)
Spells p i (Or a b) = (a < i) × (b < i) × (text_at p i ≡ (124 ∷ 32 ∷ text_at p a) ++ 32 ∷ text_at p b)
Spells p i (Exists l a) = (l < length (vec_items p.links)) × (a < i) × (text_at p i ≡ (43 ∷ 32 ∷ name_of (vec_items p.links) l) ++ 32 ∷ text_at p a)
Spells p i (Forall l a) = (l < length (vec_items p.links)) × (a < i) × (text_at p i ≡ (61 ∷ 32 ∷ name_of (vec_items p.links) l) ++ 32 ∷ text_at p a)
Spells p i (May k a) = (k ≤ 8) × (a < i) × (text_at p i ≡ 60 ∷ (48 + k) ∷ 32 ∷ text_at p a)
Spells p i (Must k a) = (k ≤ 8) × (a < i) × (text_at p i ≡ 91 ∷ (48 + k) ∷ 32 ∷ text_at p a)
