-- One node: where it finds a place, it stands for its term, and the writings have that term's put in. Assumes nothing.
use Rattle.std.proofs.Common.{◌≡◌, ℕ, ◌<◌, ◌≤◌, true, false, ◌⊎◌, List, [], ◌∷◌, ◌++◌, map, length, get_or, sym, refl, ap, ◌∙◌, subst, inl, inr, zero-add, arith}
use Rattle.std.proofs.lemmas.List.{get_or-map, get_or_push, length-map, length_push}
use Rattle.std.proofs.lemmas.Bool.{or_parts, or_from, cond_both, cond-false, ltb-true, ltb-false}
use Rattle.distinct.proofs.Places.{apart_push}
use Rattle.distinct.specs.Numbering.{Apart, number, known}
use Rattle.tables.proofs.Behind.{apart_with}
use Rattle.tables.proofs.Known.{Known, spelled_numbered}
use Rattle.tables.proofs.Numbers.{front_refl, front_long, number_at, number_below, absent_at, with_fits, fits_with, all_front, all_append}
use Rattle.tables.proofs.Shown.{same_node}
use Rattle.tables.proofs.Texts.{texts_long, noded_is, lacks_same, texts_noded}
use Rattle.tables.specs.Book.{Book, lacks, noded, node_of}
use Rattle.tables.specs.Enters.{Orderly}
use Rattle.tables.specs.Entry.{Front, Sound}
use Rattle.tables.specs.Texts.{texts}
use Rattle.tables.specs.Vocabulary.{with_name, with_names, numbered}
use Rattle.terms.proofs.Trees.{tree_at, tree_kept, decoded_same, ordered_push}
use Rattle.terms.specs.Kinds.{show_node}
use Rattle.terms.specs.Nodes.{sound, ordered, decoded, trees, tree, spelled}
use Rattle.terms.specs.Term.{Spelled, written}
use Rattle.terms.specs.declared.nodes.Node.{Node}
use Rattle.terms.specs.declared.nodes.Node.TheVariants.{Bottom}

-- a tree that was there is there still
pub tree_stays : (ns ms : List Node) (i : ℕ) → Front ns ms → i < length ns → tree ms i ≡ tree ns i
tree_stays ns ms i (zs, e) l = ap (λ x. tree x i) e ∙ tree_kept ns zs i l

pub sound_of : {b : Book} → Orderly b → Sound b
sound_of o = record { fair = o.fair; apart = o.apart }

-- one node

module _ (b : Book) (n : Node) (s : Sound b) (fits : sound (length b.classes) (length b.links) (length b.nodes) n ≡ true) (room : lacks b.node_limit (map show_node b.nodes) (show_node n) ≡ false) where
  abbrev shown : List (List ℕ)
  shown = map show_node b.nodes

  -- what keeping leaves, and the number
  record Kept (ns : List Node) (k : ℕ) : Type 0 where
    front : Front b.nodes ns
    fair : ordered (length b.classes) (length b.links) 0 ns ≡ true
    apart : Apart (map show_node ns)
    below : k < length ns
    at : get_or ns k Bottom ≡ n

  kept_known : known shown (show_node n) ≡ true → Kept b.nodes (number shown (show_node n))
  kept_known t =
      let l = ltb-true (number shown (show_node n)) (length shown) t in
      let long = length-map b.nodes show_node in
      let h : number shown (show_node n) < length b.nodes = omega arith in
      record {
        front = front_refl b.nodes;
        fair = s.fair;
        apart = s.apart;
        below = h;
        at = same_node (get_or b.nodes (number shown (show_node n)) Bottom) n (sym (get_or-map show_node b.nodes (number shown (show_node n)) Bottom [] h) ∙ number_at shown (show_node n) l);
      }

  kept_new : known shown (show_node n) ≡ false → Kept (b.nodes ++ n ∷ []) (number shown (show_node n))
  kept_new f =
      let l = ltb-false (number shown (show_node n)) (length shown) f in
      let u = number_below shown (show_node n) in
      let long = length-map b.nodes show_node in
      let more = length_push b.nodes n in
      let last : length b.nodes ≡ number shown (show_node n) = omega arith in
      record {
        front = (n ∷ [], refl);
        fair = ordered_push _ _ 0 b.nodes n s.fair (subst (λ k. sound (length b.classes) (length b.links) k n ≡ true) (sym (zero-add (length b.nodes))) fits);
        apart = apart_push show_node b.nodes n (λ k h e. absent_at shown (show_node n) k l h e) s.apart;
        below = omega arith;
        at = get_or_push b.nodes n Bottom (number shown (show_node n)) last;
      }

  kept : Kept (noded n b).nodes (node_of n b)
  kept =
      let k = number shown (show_node n) in
      subst (Kept (noded n b).nodes) (sym (cond-false (lacks b.node_limit shown (show_node n)) 0 k room))
      (subst (λ ns. Kept ns k) (sym (noded_is b n room)) (cond_both (known shown (show_node n)) b.nodes (b.nodes ++ n ∷ []) (λ ns. Kept ns k) kept_known kept_new))

-- from b, where that is in order, to c, which then is, those writings were put in
abbrev pub Order : Book → List (List ℕ) → Book → Type 0
Order b ws c = Orderly b → length b.nodes ≤ b.node_limit → Orderly c × (length c.nodes ≤ c.node_limit) × (texts c ≡ with_names (texts b) ws)

pub order_then : (b c d : Book) (ps qs : List (List ℕ)) → Order b ps c → Order c qs d → Order b (ps ++ qs) d
order_then b c d ps qs p q o r =
    let (o₁, r₁, e) = p o r in
    let (o₂, r₂, f) = q o₁ r₁ in
    (o₂, r₂, f ∙ ap (λ xs. with_names xs qs) e ∙ sym (all_append (texts b) ps qs))

-- Why what is put in, from b to d, finds places: b is in order, the flag was down and there is room for all of ws, or
-- it is down at the end.
abbrev pub Way : Book → List (List ℕ) → Book → Type 0
Way b ws d = (Orderly b × (length b.nodes ≤ b.node_limit) × (b.terms_full ≡ false) × (length (with_names (texts b) ws) ≤ b.node_limit)) ⊎ (d.terms_full ≡ false)

pub way_first : (b c d : Book) (ps qs : List (List ℕ)) → (d.terms_full ≡ false → c.terms_full ≡ false) → Way b (ps ++ qs) d → Way b ps c
way_first b c d ps qs was (inl (o, r, f, h)) =
    let e = ap length (all_append (texts b) ps qs) in
    let l = front_long _ _ (all_front (with_names (texts b) ps) qs) in
    inl (o, r, f, (omega arith))
way_first b c d ps qs was (inr f) = inr (was f)

pub way_then : (b c d : Book) (ps qs : List (List ℕ)) → Order b ps c → c.node_limit ≡ b.node_limit → (b.terms_full ≡ false → c.terms_full ≡ false) → Way b (ps ++ qs) d → Way c qs d
way_then b c d ps qs p l was (inl (o, r, f, h)) =
    let (o₁, r₁, e) = p o r in
    let same = ap length (all_append (texts b) ps qs ∙ ap (λ xs. with_names xs qs) (sym e)) in
    inl (o₁, r₁, was f, (omega arith))
way_then b c d ps qs p l was (inr f) = inr f

-- the book c may take the node n, which stands for t
pub record Ready (c : Book) (n : Node) (t : Spelled) : Type 0 where
  pub base : Sound c
  pub fits : sound (length c.classes) (length c.links) (length c.nodes) n ≡ true
  pub known : Known c.classes c.links t
  pub reads : decoded (trees c.nodes) n ≡ numbered c.classes c.links t

-- it took it
pub record Step (c d : Book) (i : ℕ) (t : Spelled) : Type 0 where
  pub base : Sound d
  pub below : i < length d.nodes
  pub reads : tree d.nodes i ≡ numbered c.classes c.links t
  pub free : d.terms_full ≡ false
  pub order : Order c (written t ∷ []) d

module _ (c : Book) (n : Node) (t : Spelled) (r : Ready c n t) where
  writes : written (spelled c.classes c.links (decoded (trees c.nodes) n)) ≡ written t
  writes = ap written (ap (spelled c.classes c.links) r.reads ∙ spelled_numbered c.classes c.links t r.known)

  -- it lacks a place in both or in none
  lacks_text : Orderly c → lacks c.node_limit (map show_node c.nodes) (show_node n) ≡ lacks c.node_limit (texts c) (written t)
  lacks_text o = lacks_same c o n r.fits ∙ ap (lacks c.node_limit (texts c)) writes

  way_free : Way c (written t ∷ []) (noded n c) → (lacks c.node_limit (map show_node c.nodes) (show_node n) ≡ false) × ((noded n c).terms_full ≡ false)
  way_free (inl (o, _, f, h)) = let l = lacks_text o ∙ fits_with c.node_limit (texts c) (written t) h in (l, or_from c.terms_full _ f l)
  way_free (inr f) = ((or_parts c.terms_full _ f).1, f)

  pub step : Way c (written t ∷ []) (noded n c) → Step c (noded n c) (node_of n c) t
  step way =
      let (l, f) = way_free way in
      let k = kept c n r.base r.fits l in
      record {
        base = record { fair = k.fair; apart = k.apart };
        below = k.below;
        reads = tree_at (length c.classes) (length c.links) (noded n c).nodes (node_of n c) k.fair k.below ∙ ap (decoded (trees (noded n c).nodes)) k.at ∙ decoded_same (trees (noded n c).nodes) (trees c.nodes) (length c.classes) (length c.links) (length c.nodes) (λ j h. tree_stays c.nodes (noded n c).nodes j k.front h) n r.fits ∙ r.reads;
        free = f;
        order = λ o room.
            let terms : texts (noded n c) ≡ with_name (texts c) (written t) = texts_noded c o n r.fits l ∙ ap (with_name (texts c)) writes in
            let was = texts_long c in
            let now = texts_long (noded n c) in
            let less : length (texts c) ≤ c.node_limit = omega arith in
            let more = with_fits c.node_limit (texts c) (written t) (sym (lacks_text o) ∙ l) less in
            let same = ap length terms in (
              record { fair = k.fair; apart = k.apart; classes_apart = o.classes_apart; links_apart = o.links_apart; classes_legal = o.classes_legal; links_legal = o.links_legal; different = subst Apart (sym terms) (apart_with (texts c) (written t) o.different) },
              (omega arith),
              terms,
            );
      }
