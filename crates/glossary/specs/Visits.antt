-- Which names a visitor is shown. Assumes nothing.
use Rattle.std.specs.Prelude.{ℕ, List, [], ◌∷◌}
use Rattle.terms.specs.declared.nodes.Sort.{Sort}
use Rattle.terms.specs.declared.nodes.Sort.TheVariants.{OfClass, OfLink}

-- a name of a class, and none of a link
abbrev pub class_in : Sort → List ℕ → List (List ℕ)
class_in OfClass w = w ∷ []
class_in OfLink w = []
