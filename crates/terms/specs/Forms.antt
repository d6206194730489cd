-- The operators that take parts, as terms and as nodes. Assumes nothing.
use Rattle.std.specs.Prelude.{ℕ}
use Rattle.terms.specs.Term.{Term, and, or, exists, forall, may, must}
use Rattle.terms.specs.declared.nodes.Node.{Node}
use Rattle.terms.specs.declared.nodes.Node.TheVariants as node
use Rattle.terms.specs.declared.words.Join.{Join}
use Rattle.terms.specs.declared.words.Join.TheVariants.{And, Or}
use Rattle.terms.specs.declared.words.Modality.{Modality}
use Rattle.terms.specs.declared.words.Modality.TheVariants.{May, Must}
use Rattle.terms.specs.declared.words.Quantifier.{Quantifier}
use Rattle.terms.specs.declared.words.Quantifier.TheVariants.{Exists, Forall}

module _ {N : Type 0} where
  abbrev pub joins : Join → Term N → Term N → Term N
  joins And t u = and t u
  joins Or t u = or t u

  abbrev pub quantifies : Quantifier → N → Term N → Term N
  quantifies Exists r t = exists r t
  quantifies Forall r t = forall r t

  abbrev pub modalizes : Modality → ℕ → Term N → Term N
  modalizes May i t = may i t
  modalizes Must i t = must i t

abbrev pub join_node : Join → ℕ → ℕ → Node
join_node And a b = node.And a b
join_node Or a b = node.Or a b

abbrev pub quantifier_node : Quantifier → ℕ → ℕ → Node
quantifier_node Exists l a = node.Exists l a
quantifier_node Forall l a = node.Forall l a

abbrev pub modal_node : Modality → ℕ → ℕ → Node
modal_node May i a = node.May i a
modal_node Must i a = node.Must i a
