-- A node stands in the tables exactly if its term's writing does. Assumes nothing.
use Rattle.std.proofs.Common.{◌≡◌, ℕ, ◌<◌, ◌≤◌, true, false, cond, ltb, List, [], ◌∷◌, ◌++◌, map, length, get_or, sym, refl, ap, ◌∙◌, subst, zero-add, arith}
use Rattle.std.proofs.lemmas.Grind.{common_steps}
use Rattle.std.proofs.lemmas.List.{ext_get_or, get_or-map, length-map, length_push, map_push}
use Rattle.std.proofs.lemmas.Bool.{and_parts, ltb-true}
use Rattle.std.specs.Cmp.{both_ways}
use Rattle.distinct.specs.Numbering.{number, known}
use Rattle.tables.proofs.Behind.{known_from}
use Rattle.tables.proofs.Numbers.{number_at}
use Rattle.tables.proofs.Shown.{same_node}
use Rattle.tables.proofs.Spelling.{spot, numbered_spelled, spelled_valid, written_same}
use Rattle.tables.specs.Book.{Book, lacks, noded}
use Rattle.tables.specs.Enters.{Orderly}
use Rattle.tables.specs.Entry.{Front}
use Rattle.tables.specs.Texts.{texts}
use Rattle.tables.specs.Vocabulary.{with_name, numbered}
use Rattle.terms.proofs.Trees.{InRange, length_trees, tree_at, tree_push, tree_range, trees_push, ordered_at, ordered_push, spelled_kept}
use Rattle.terms.specs.Kinds.{show_node}
use Rattle.terms.specs.Nodes.{sound, ordered, decoded, trees, tree, spelled}
use Rattle.terms.specs.Term.{Term, top, bottom, class, neg, and, or, exists, forall, may, must, written}
use Rattle.terms.specs.declared.nodes.Node.{Node}
use Rattle.terms.specs.declared.nodes.Node.TheVariants.{Top, Bottom, Class, Not, And, Or, Exists, Forall, May, Must}

-- a node that is sound at a place is sound at a later one
sound_later : (nc nl p q : ℕ) → p ≤ q → (n : Node) → sound nc nl p n ≡ true → sound nc nl q n ≡ true
sound_later nc nl p q h Top s = refl
sound_later nc nl p q h Bottom s = refl
sound_later nc nl p q h (Class c) s = s
sound_later nc nl p q h (Not a) s = grind (arith, common_steps)
sound_later nc nl p q h (And a b) s = grind (arith, common_steps)
sound_later nc nl p q h (Or a b) s = grind (arith, common_steps)
sound_later nc nl p q h (Exists l a) s = grind (arith, common_steps)
sound_later nc nl p q h (Forall l a) s = grind (arith, common_steps)
sound_later nc nl p q h (May i a) s = grind (arith, common_steps)
sound_later nc nl p q h (Must i a) s = grind (arith, common_steps)

-- a node that finds a place is put behind the others where it is new
pub noded_is : (c : Book) (n : Node) → lacks c.node_limit (map show_node c.nodes) (show_node n) ≡ false → (noded n c).nodes ≡ cond (known (map show_node c.nodes) (show_node n)) c.nodes (c.nodes ++ n ∷ [])
noded_is c n room = grind (arith, common_steps)

module _ (c : Book) where
  -- how a tree of the table is written
  abbrev text : Term ℕ → List ℕ
  text t = written (spelled c.classes c.links t)

  pub texts_long : length (texts c) ≡ length c.nodes
  texts_long = length-map (trees c.nodes) text ∙ length_trees c.nodes

  pub text_at : (k : ℕ) → k < length c.nodes → get_or (texts c) k [] ≡ text (tree c.nodes k)
  text_at k l = let h = length_trees c.nodes in get_or-map text (trees c.nodes) k bottom [] (omega arith)

  -- the node of a tree
  abbrev place : Term ℕ → ℕ
  place t = number (texts c) (text t)

  abbrev again : Term ℕ → Node
  again top = Top
  again bottom = Bottom
  again (class k) = Class k
  again (neg t) = Not (place t)
  again (and t u) = And (place t) (place u)
  again (or t u) = Or (place t) (place u)
  again (exists l t) = Exists l (place t)
  again (forall l t) = Forall l (place t)
  again (may i t) = May i (place t)
  again (must i t) = Must i (place t)

  module _ (s : Orderly c) where
    place_at : (a : ℕ) → ltb a (length c.nodes) ≡ true → place (get_or (trees c.nodes) a bottom) ≡ a
    place_at a t =
        let l = ltb-true a (length c.nodes) t in
        let long = texts_long in
        ap (number (texts c)) (sym (text_at a l)) ∙ spot (texts c) s.different a (omega arith)

    again_is : (nc nl : ℕ) (n : Node) → sound nc nl (length c.nodes) n ≡ true → again (decoded (trees c.nodes) n) ≡ n
    again_is nc nl Top f = refl
    again_is nc nl Bottom f = refl
    again_is nc nl (Class k) f = refl
    again_is nc nl (Not a) f = ap Not (place_at a f)
    again_is nc nl (And a b) f = let q = and_parts _ _ f in let x = place_at a q.0 in let y = place_at b q.1 in cc
    again_is nc nl (Or a b) f = let q = and_parts _ _ f in let x = place_at a q.0 in let y = place_at b q.1 in cc
    again_is nc nl (Exists l a) f = ap (Exists l) (place_at a (and_parts _ _ f).1)
    again_is nc nl (Forall l a) f = ap (Forall l) (place_at a (and_parts _ _ f).1)
    again_is nc nl (May i a) f = ap (May i) (place_at a (and_parts _ _ f).1)
    again_is nc nl (Must i a) f = ap (Must i) (place_at a (and_parts _ _ f).1)

    -- trees that are written alike are one tree
    alike : (t u : Term ℕ) → InRange (length c.classes) (length c.links) t → InRange (length c.classes) (length c.links) u → text t ≡ text u → t ≡ u
    alike t u p q e =
        let cs = c.classes in
        let ls = c.links in
        sym (numbered_spelled cs ls s.classes_apart s.links_apart t p)
        ∙ ap (numbered cs ls) (written_same (spelled cs ls t) (spelled cs ls u) (spelled_valid cs ls s.classes_legal s.links_legal t p) (spelled_valid cs ls s.classes_legal s.links_legal u q) e)
        ∙ numbered_spelled cs ls s.classes_apart s.links_apart u q

    module _ (n : Node) (fits : sound (length c.classes) (length c.links) (length c.nodes) n ≡ true) where
      abbrev shown : List (List ℕ)
      shown = map show_node c.nodes

      abbrev whole : Term ℕ
      whole = decoded (trees c.nodes) n

      whole_range : InRange (length c.classes) (length c.links) whole
      whole_range =
          let fair = ordered_push (length c.classes) (length c.links) 0 c.nodes n s.fair (subst (λ k. sound (length c.classes) (length c.links) k n ≡ true) (sym (zero-add (length c.nodes))) fits) in
          let long = length_push c.nodes n in
          subst (InRange (length c.classes) (length c.links)) (tree_push c.nodes n (length c.nodes) refl) (tree_range (length c.classes) (length c.links) (c.nodes ++ n ∷ []) (length c.nodes) fair (omega arith))

      shown_known : known shown (show_node n) ≡ true → known (texts c) (text whole) ≡ true
      shown_known t =
          let k : ℕ = number shown (show_node n) in
          let l = ltb-true k (length shown) t in
          let long = length-map c.nodes show_node in
          let h : k < length c.nodes = omega arith in
          let at : get_or c.nodes k Bottom ≡ n = same_node (get_or c.nodes k Bottom) n (sym (get_or-map show_node c.nodes k Bottom [] h) ∙ number_at shown (show_node n) l) in
          let there = texts_long in
          known_from (texts c) (text whole) k (omega arith) (text_at k h ∙ ap text (tree_at (length c.classes) (length c.links) c.nodes k s.fair h ∙ ap (decoded (trees c.nodes)) at))

      text_known : known (texts c) (text whole) ≡ true → known shown (show_node n) ≡ true
      text_known t =
          let nc = length c.classes in
          let nl = length c.links in
          let k : ℕ = number (texts c) (text whole) in
          let l = ltb-true k (length (texts c)) t in
          let there = texts_long in
          let h : k < length c.nodes = omega arith in
          let long = length-map c.nodes show_node in
          let m : Node = get_or c.nodes k Bottom in
          let e : text (tree c.nodes k) ≡ text whole = sym (text_at k h) ∙ number_at (texts c) (text whole) l in
          let same : tree c.nodes k ≡ whole = alike (tree c.nodes k) whole (tree_range nc nl c.nodes k s.fair h) whole_range e in
          let low : sound nc nl k m ≡ true = subst (λ j. sound nc nl j m ≡ true) (zero-add k) (ordered_at nc nl 0 c.nodes k s.fair h) in
          let at : m ≡ n = sym (again_is nc nl m (sound_later nc nl k (length c.nodes) (omega arith) m low)) ∙ ap again (sym (tree_at nc nl c.nodes k s.fair h) ∙ same) ∙ again_is nc nl n fits in
          known_from shown (show_node n) k (omega arith) (get_or-map show_node c.nodes k Bottom [] h ∙ ap show_node at)

      known_same : known shown (show_node n) ≡ known (texts c) (text whole)
      known_same = both_ways _ _ shown_known text_known

      pub lacks_same : lacks c.node_limit shown (show_node n) ≡ lacks c.node_limit (texts c) (text whole)
      lacks_same = let l = length-map c.nodes show_node in let t = texts_long in let k = known_same in grind (arith, common_steps)

      -- the writings, where the node finds a place
      pub texts_noded : lacks c.node_limit shown (show_node n) ≡ false → texts (noded n c) ≡ with_name (texts c) (text whole)
      texts_noded room =
          let is = noded_is c n room in
          let more = trees_push c.nodes n in
          let long = map_push text (trees c.nodes) whole in
          let k = known_same in
          grind (arith, common_steps)

-- more names leave the writings as they were
pub texts_named : (b c : Book) → ordered (length b.classes) (length b.links) 0 b.nodes ≡ true → Front b.classes c.classes → Front b.links c.links → c.nodes ≡ b.nodes → texts c ≡ texts b
texts_named b c o (xs, p) (ys, q) e =
    let one = texts_long c in
    let two = texts_long b in
    let three = ap length e in
    ext_get_or [] (texts c) (texts b) (omega arith) (λ k h. at k (omega arith))
  where
    at : (k : ℕ) → k < length b.nodes → get_or (texts c) k [] ≡ get_or (texts b) k []
    at k l =
        let three = ap length e in
        text_at c k (omega arith) ∙ ap (λ ns. text c (tree ns k)) e
        ∙ ap written (ap (λ cs. spelled cs c.links (tree b.nodes k)) p ∙ ap (λ ls. spelled (b.classes ++ xs) ls (tree b.nodes k)) q ∙ spelled_kept b.classes xs b.links ys (tree b.nodes k) (tree_range (length b.classes) (length b.links) b.nodes k o l))
        ∙ sym (text_at b k l)
