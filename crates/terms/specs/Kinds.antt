-- What a node shows: all of it. Assumes nothing.
use Rattle.std.specs.Prelude.{ℕ, List, [], ◌∷◌}
use Rattle.terms.specs.declared.nodes.Node.{Node}
use Rattle.terms.specs.declared.nodes.Node.TheVariants.{Top, Bottom, Class, Not, And, Or, Exists, Forall, May, Must}

abbrev pub show_node : Node → List ℕ
show_node Bottom = 0 ∷ []
show_node Top = 1 ∷ []
show_node (Class c) = 2 ∷ c ∷ []
show_node (Not a) = 3 ∷ a ∷ []
show_node (And a b) = 4 ∷ a ∷ b ∷ []
show_node (Or a b) = 5 ∷ a ∷ b ∷ []
show_node (Exists l a) = 6 ∷ l ∷ a ∷ []
show_node (Forall l a) = 7 ∷ l ∷ a ∷ []
show_node (May i a) = 8 ∷ i ∷ a ∷ []
show_node (Must i a) = 9 ∷ i ∷ a ∷ []
