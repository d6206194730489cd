-- What a draft does with a name and a node: each is added behind the others. Assumes nothing.
use Rattle.std.specs.Prelude.{◌≡◌, ℕ, List, [], ◌∷◌, ◌++◌, map, length, Ok, vec_items}
use Rattle.terms.specs.Nodes.{name_bytes}
use Rattle.expressions.specs.declared.drafts.Draft.{Draft}
use Rattle.expressions.specs.declared.parts.Parts.{Parts}
use Rattle.terms.specs.declared.nodes.Node.{Node}
use Rattle.terms.specs.declared.nodes.Sort.{Sort}
use Rattle.terms.specs.declared.nodes.Sort.TheVariants.{OfClass, OfLink}

pub record Contents : Type 0 where
  pub classes : List (List ℕ)
  pub links : List (List ℕ)
  pub nodes : List Node

abbrev pub contents : Parts → Contents
contents p = record { classes = map name_bytes (vec_items p.classes); links = map name_bytes (vec_items p.links); nodes = vec_items p.nodes }

-- the name gets the next number of its sort, and stands there
abbrev pub Named : Contents → Sort → List ℕ → ℕ → Contents → Type 0
Named d OfClass w i e = (i ≡ length d.classes) × (e ≡ record d { classes = d.classes ++ w ∷ [] })
Named d OfLink w i e = (i ≡ length d.links) × (e ≡ record d { links = d.links ++ w ∷ [] })

abbrev pub Noded : Contents → Node → ℕ → Contents → Type 0
Noded d n i e = (i ≡ length d.nodes) × (e ≡ record d { nodes = d.nodes ++ n ∷ [] })

-- a draft does so, unless memory was wanting, here or before
abbrev pub Labels : Draft → Sort → List ℕ → ℕ → Draft → Type 0
Labels d k w i e = e.memory ≡ Ok tt → (d.memory ≡ Ok tt) × (Named (contents d.parts) k w i (contents e.parts))

abbrev pub Makes : Draft → Node → ℕ → Draft → Type 0
Makes d n i e = e.memory ≡ Ok tt → (d.memory ≡ Ok tt) × (Noded (contents d.parts) n i (contents e.parts))
