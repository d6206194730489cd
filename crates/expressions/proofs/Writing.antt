-- What is written for a node, over what is written for its parts. Assumes nothing.
use Rattle.std.proofs.Common.{◌≡◌, ℕ, ◌<◌, true, ◌&&◌, leb, List, map, length, get_or, vec_items, sym, ap, ◌∙◌, subst, zero-add}
use Rattle.std.proofs.lemmas.List.{get_or_default}
use Rattle.std.proofs.lemmas.Bool.{and_parts, ltb-true, leb-true}
use Rattle.terms.specs.Nodes.{name_bytes, sound, decoded, trees, tree, spelled}
use Rattle.terms.specs.Term.{Term, written}
use Rattle.expressions.specs.Parts.{Spells}
use Rattle.expressions.specs.declared.kept.Expression.{Expression}
use Rattle.expressions.specs.declared.parts.Parts.{Parts}
use Rattle.terms.specs.declared.nodes.Node.{Node}
use Rattle.terms.specs.declared.nodes.Node.TheVariants.{Top, Bottom, Class, Not, And, Or, Exists, Forall, May, Must}
use Rattle.terms.proofs.Trees.{tree_at, ordered_at}

module _ (p : Parts) where
  abbrev word : Term ℕ → List ℕ
  word t = written (spelled (map name_bytes (vec_items p.classes)) (map name_bytes (vec_items p.links)) t)

  spells_node : (i : ℕ) (n : Node) → sound (length (vec_items p.classes)) (length (vec_items p.links)) i n ≡ true → tree (vec_items p.nodes) i ≡ decoded (trees (vec_items p.nodes)) n → Spells p i n
  spells_node i Top s e = ap word e
  spells_node i Bottom s e = ap word e
  spells_node i (Class c) s e = (ltb-true _ _ s, ap word e)
  spells_node i (Not a) s e = (ltb-true _ _ s, ap word e)
  spells_node i (And a b) s e = let q = and_parts _ _ s in (ltb-true _ _ q.0, ltb-true _ _ q.1, ap word e)
  spells_node i (Or a b) s e = let q = and_parts _ _ s in (ltb-true _ _ q.0, ltb-true _ _ q.1, ap word e)
  spells_node i (Exists l a) s e = let q = and_parts _ _ s in (ltb-true _ _ q.0, ltb-true _ _ q.1, ap word e)
  spells_node i (Forall l a) s e = let q = and_parts _ _ s in (ltb-true _ _ q.0, ltb-true _ _ q.1, ap word e)
  spells_node i (May k a) s e = let q = and_parts (leb 1 k && leb k 8) _ s in (leb-true _ _ (and_parts (leb 1 k) _ q.0).1, ltb-true _ _ q.1, ap word e)
  spells_node i (Must k a) s e = let q = and_parts (leb 1 k && leb k 8) _ s in (leb-true _ _ (and_parts (leb 1 k) _ q.0).1, ltb-true _ _ q.1, ap word e)

-- each part of a node stands before it
pub spells : (x : Expression) (i : ℕ) (n : Node) → i < length (vec_items x.parts.nodes) → n ≡ get_or (vec_items x.parts.nodes) i n → Spells x.parts i n
spells x i n l is =
    let cs = length (vec_items x.parts.classes) in
    let ls = length (vec_items x.parts.links) in
    let ns = vec_items x.parts.nodes in
    let e = sym (is ∙ get_or_default ns i n Bottom l) in
    let s = subst (λ k. sound cs ls k (get_or ns i Bottom) ≡ true) (zero-add i) (ordered_at cs ls 0 ns i x.sorted l) in
    spells_node x.parts i n (subst (λ m. sound cs ls i m ≡ true) e s) (tree_at cs ls ns i x.sorted l ∙ ap (decoded (trees ns)) e)
