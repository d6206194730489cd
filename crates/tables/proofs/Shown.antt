-- Nodes that show the same are the same. Assumes nothing.
use Rattle.std.proofs.Common.{◌≡◌, ℕ, cond, eqb, List, get_or, sym, refl, ap, ◌∙◌}
use Rattle.terms.specs.Kinds.{show_node}
use Rattle.terms.specs.declared.nodes.Node.{Node}
use Rattle.terms.specs.declared.nodes.Node.TheVariants.{Top, Bottom, Class, Not, And, Or, Exists, Forall, May, Must}

-- the node again
abbrev back : ℕ → ℕ → ℕ → Node
back k a b =
    cond (eqb k 0) Bottom (cond (eqb k 1) Top (cond (eqb k 2) (Class a) (cond (eqb k 3) (Not a) (cond (eqb k 4) (And a b) (cond (eqb k 5) (Or a b) (cond (eqb k 6) (Exists a b) (cond (eqb k 7) (Forall a b) (cond (eqb k 8) (May a b) (Must a b)))))))))

abbrev again : List ℕ → Node
again w = back (get_or w 0 0) (get_or w 1 0) (get_or w 2 0)

again_is : (n : Node) → again (show_node n) ≡ n
again_is Bottom = refl
again_is Top = refl
again_is (Class c) = refl
again_is (Not a) = refl
again_is (And a b) = refl
again_is (Or a b) = refl
again_is (Exists l a) = refl
again_is (Forall l a) = refl
again_is (May i a) = refl
again_is (Must i a) = refl

pub same_node : (m n : Node) → show_node m ≡ show_node n → m ≡ n
same_node m n e = sym (again_is m) ∙ ap again e ∙ again_is n
