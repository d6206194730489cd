-- A whole term: where its names and parts find places, its node stands for it. Assumes nothing.
use Rattle.std.proofs.Common.{◌≡◌, ℕ, ◌<◌, ◌≤◌, Bool, true, false, ◌&&◌, ltb, leb, List, [], ◌∷◌, ◌++◌, length, sym, refl, ap, ◌∙◌, subst, arith}
use Rattle.std.proofs.lemmas.List.{append_assoc}
use Rattle.std.proofs.lemmas.Bool.{and_from, or_parts, lt-ltb, le-leb}
use Rattle.distinct.specs.Numbering.{number}
use Rattle.tables.proofs.Fronts.{label_fronts}
use Rattle.tables.proofs.Known.{Known, known_at, all_known, numbered_kept}
use Rattle.tables.proofs.Names.{went, went_label, room_of}
use Rattle.tables.proofs.Numbers.{front_refl, front_long, front_number, with_known, keep_is, label_is}
use Rattle.tables.proofs.OneName.{label_sound}
use Rattle.tables.proofs.Spelling.{is_legal}
use Rattle.tables.proofs.Step.{Order, order_then, Ready, Way, way_first, way_then, step, tree_stays}
use Rattle.tables.specs.Book.{Book, keep, lacks, placed, names_of, labelled, label_of, noded}
use Rattle.tables.specs.Entry.{Front, Room, Sound}
use Rattle.tables.specs.Entered.{Made, made, entered}
use Rattle.tables.specs.Texts.{parts}
use Rattle.tables.specs.Vocabulary.{with_name, numbered}
use Rattle.terms.proofs.Trees.{ordered_more}
use Rattle.terms.specs.Nodes.{sound, decoded, trees, tree}
use Rattle.terms.specs.Term.{Spelled, top, bottom, class, neg, and, or, exists, forall, may, must, written, Valid}
use Rattle.terms.specs.declared.nodes.Node.{Node}
use Rattle.terms.specs.declared.nodes.Node.TheVariants.{Top, Bottom, Class, Not, And, Or, Exists, Forall, May, Must}
use Rattle.terms.specs.declared.nodes.Sort.{Sort}
use Rattle.terms.specs.declared.nodes.Sort.TheVariants.{OfClass, OfLink}
use Rattle.names.specs.Name.{Legal}

-- one name

-- it is known from then on, under its number
list_known : (limit : ℕ) (xs ys : List (List ℕ)) (w : List ℕ) → lacks limit xs w ≡ false → Front (keep limit xs w xs w) ys → (placed limit xs w ≡ number ys w) × (number ys w < length ys)
list_known limit xs ys w l q =
    let front : Front (with_name xs w) ys = subst (λ zs. Front zs ys) (keep_is limit xs w l) q in
    let here = with_known xs w in
    let later = front_number (with_name xs w) ys w front here in
    let long = front_long (with_name xs w) ys front in
    (label_is limit xs w l ∙ sym later, (omega arith))

name_known : (k : Sort) (w : List ℕ) (b d : Book) → (labelled k w b).names_full ≡ false → Front (names_of k (labelled k w b)) (names_of k d) → (label_of k w b ≡ number (names_of k d) w) × (number (names_of k d) w < length (names_of k d))
name_known OfClass w b d f q = list_known b.class_limit b.classes d.classes w (or_parts b.names_full _ f).1 q
name_known OfLink w b d f q = list_known b.link_limit b.links d.links w (or_parts b.names_full _ f).1 q

-- it leaves the nodes sound, and in order
name_sound : (k : Sort) (w : List ℕ) (b : Book) → Sound b → Sound (labelled k w b)
name_sound k w b s =
    let p = label_fronts k w b in
    let c = labelled k w b in
    record { fair = ordered_more (length b.classes) (length b.links) (length c.classes) (length c.links) 0 (front_long _ _ p.classes) (front_long _ _ p.links) b.nodes s.fair; apart = s.apart }

name_order : (k : Sort) (w : List ℕ) (b : Book) → Legal w → (labelled k w b).names_full ≡ false → Order b [] (labelled k w b)
name_order k w b l f o r = let (p, e) = label_sound k b w o (is_legal w l) f in (p, r, e)

-- the names of a term that was entered are known
names_known : (t : Spelled) (b : Book) → Room b → (entered t b).book.names_full ≡ false → Known (entered t b).book.classes (entered t b).book.links t
names_known t b r f = let n = (went t b).named r f in known_at (sym n.classes) (sym n.links) t (all_known b.classes b.links t)

-- what is so of a term that was entered
pub record Done (b : Book) (t : Spelled) (m : Made) : Type 0 where
  pub base : Sound m.book
  pub below : m.number < length m.book.nodes
  pub reads : tree m.book.nodes m.number ≡ numbered m.book.classes m.book.links t
  pub free : m.book.terms_full ≡ false
  pub order : Order b (parts t) m.book

-- from b to c the parts ws, then the node of the whole
done_node : (b c : Book) (n : Node) (t : Spelled) (ws : List (List ℕ)) → Order b ws c → c.node_limit ≡ b.node_limit → (b.terms_full ≡ false → c.terms_full ≡ false) → parts t ≡ ws ++ written t ∷ [] → Ready c n t → Way b (parts t) (noded n c) → Done b t (made n c)
done_node b c n t ws o l was whole ready way =
    let s = step c n t ready (way_then b c (noded n c) ws (written t ∷ []) o l was (subst (λ ps. Way b ps (noded n c)) whole way)) in
    record {
      base = s.base;
      below = s.below;
      reads = s.reads;
      free = s.free;
      order = subst (λ ps. Order b ps (noded n c)) (sym whole) (order_then b c (noded n c) ws (written t ∷ []) o s.order);
    }

-- over one part, from a to b a name before it or nothing
done_over : (a b : Book) (t v : Spelled) (n : Node) → Order a [] b → b.node_limit ≡ a.node_limit → (a.terms_full ≡ false → b.terms_full ≡ false) → let m = entered t b in (Way b (parts t) m.book → Done b t m) → parts v ≡ parts t ++ written v ∷ [] → (ltb m.number (length m.book.nodes) ≡ true → sound (length m.book.classes) (length m.book.links) (length m.book.nodes) n ≡ true) → Known m.book.classes m.book.links v → (tree m.book.nodes m.number ≡ numbered m.book.classes m.book.links t → decoded (trees m.book.nodes) n ≡ numbered m.book.classes m.book.links v) → Way a (parts v) (noded n m.book) → Done a v (made n m.book)
done_over a b t v n o l was done whole fits known reads way =
    let m = entered t b in
    let w = went t b in
    let end = written v ∷ [] in
    let after = way_then a b (noded n m.book) [] (parts t ++ end) o l was (subst (λ ps. Way a ps (noded n m.book)) whole way) in
    let d = done (way_first b m.book (noded n m.book) (parts t) end (λ f. (or_parts m.book.terms_full _ f).0) after) in
    done_node a m.book n v (parts t) (order_then a b m.book [] (parts t) o d.order) (w.limits.nodes ∙ l) (λ _. d.free) whole
    (record { base = d.base; fits = fits (lt-ltb m.number (length m.book.nodes) d.below); known = known; reads = reads d.reads }) way

-- over two parts
done_pair : (b : Book) (t u v : Spelled) (n : Node) → Room b → let m = entered t b in let k = entered u m.book in k.book.names_full ≡ false → (Room b → m.book.names_full ≡ false → Way b (parts t) m.book → Done b t m) → (Sound m.book → Room m.book → Way m.book (parts u) k.book → Done m.book u k) → parts v ≡ parts t ++ (parts u ++ written v ∷ []) → (ltb m.number (length k.book.nodes) ≡ true → ltb k.number (length k.book.nodes) ≡ true → sound (length k.book.classes) (length k.book.links) (length k.book.nodes) n ≡ true) → Known k.book.classes k.book.links v → (tree k.book.nodes m.number ≡ numbered k.book.classes k.book.links t → tree k.book.nodes k.number ≡ numbered k.book.classes k.book.links u → decoded (trees k.book.nodes) n ≡ numbered k.book.classes k.book.links v) → Way b (parts v) (noded n k.book) → Done b v (made n k.book)
done_pair b t u v n r nf one two whole fits known reads way =
    let m = entered t b in
    let k = entered u m.book in
    let end = written v ∷ [] in
    let p = went t b in
    let q = went u m.book in
    let nt = q.names_was nf in
    let last = λ (f : (noded n k.book).terms_full ≡ false). (or_parts k.book.terms_full _ f).0 in
    let all = subst (λ ps. Way b ps (noded n k.book)) whole way in
    let d = one r nt (way_first b m.book (noded n k.book) (parts t) (parts u ++ end) (λ f. q.terms_was (last f)) all) in
    let rest = way_then b m.book (noded n k.book) (parts t) (parts u ++ end) d.order p.limits.nodes (λ _. d.free) all in
    let e = two d.base (room_of (p.named r nt)) (way_first m.book k.book (noded n k.book) (parts u) end last rest) in
    let long = front_long m.book.nodes k.book.nodes q.fronts.nodes in
    let low : m.number < length k.book.nodes = let h = d.below in omega arith in
    let left : tree k.book.nodes m.number ≡ numbered k.book.classes k.book.links t = tree_stays m.book.nodes k.book.nodes m.number q.fronts.nodes d.below ∙ d.reads ∙ sym (numbered_kept m.book.classes k.book.classes m.book.links k.book.links q.fronts.classes q.fronts.links t (names_known t b r nt)) in
    done_node b k.book n v (parts t ++ parts u) (order_then b m.book k.book (parts t) (parts u) d.order e.order) (q.limits.nodes ∙ p.limits.nodes) (λ _. e.free) (whole ∙ sym (append_assoc (parts t) (parts u) end))
    (record { base = e.base; fits = fits (lt-ltb m.number (length k.book.nodes) low) (lt-ltb k.number (length k.book.nodes) e.below); known = known; reads = reads left e.reads }) way

-- over a link and a part
done_link : (b : Book) (w : List ℕ) (t v : Spelled) (n : Node) → Legal w → Room b → let c = labelled OfLink w b in let m = entered t c in m.book.names_full ≡ false → (Room c → Way c (parts t) m.book → Done c t m) → parts v ≡ parts t ++ written v ∷ [] → (ltb (label_of OfLink w b) (length m.book.links) ≡ true → ltb m.number (length m.book.nodes) ≡ true → sound (length m.book.classes) (length m.book.links) (length m.book.nodes) n ≡ true) → Known m.book.classes m.book.links v → (label_of OfLink w b ≡ number m.book.links w → tree m.book.nodes m.number ≡ numbered m.book.classes m.book.links t → decoded (trees m.book.nodes) n ≡ numbered m.book.classes m.book.links v) → Way b (parts v) (noded n m.book) → Done b v (made n m.book)
done_link b w t v n l r nf done whole fits known reads way =
    let c = labelled OfLink w b in
    let m = entered t c in
    let p = went_label w b OfLink in
    let q = went t c in
    let nt = q.names_was nf in
    let (label, here) = name_known OfLink w b m.book nt q.fronts.links in
    done_over b c t v n (name_order OfLink w b l nt) refl (λ f. f) (done (room_of (p.named r nt))) whole (fits (lt-ltb (label_of OfLink w b) (length m.book.links) (omega arith))) known (reads label) way

-- a class
done_class : (b : Book) (w : List ℕ) → Legal w → Sound b → (labelled OfClass w b).names_full ≡ false → Way b (w ∷ []) (noded (Class (label_of OfClass w b)) (labelled OfClass w b)) → Done b (class w) (made (Class (label_of OfClass w b)) (labelled OfClass w b))
done_class b w l s nf way =
    let c = labelled OfClass w b in
    let (label, here) = name_known OfClass w b c nf (front_refl c.classes) in
    done_node b c (Class (label_of OfClass w b)) (class w) [] (name_order OfClass w b l nf) refl (λ f. f) refl
    (record { base = name_sound OfClass w b s; fits = lt-ltb (label_of OfClass w b) (length c.classes) (omega arith); known = here; reads = ap class label }) way

reader_fits : (k : ℕ) (x : Bool) → 1 ≤ k → k ≤ 8 → x ≡ true → ((leb 1 k && leb k 8) && x) ≡ true
reader_fits k x l h e = and_from _ _ (and_from _ _ (le-leb 1 k l) (le-leb k 8 h)) e

still : (b : Book) → Order b [] b
still b o r = (o, r, refl)

pub done : (t : Spelled) (b : Book) → Valid t → Sound b → Room b → (entered t b).book.names_full ≡ false → Way b (parts t) (entered t b).book → Done b t (entered t b)
unfolding entered
done top b v s r nf way = done_node b b Top top [] (still b) refl (λ f. f) refl (record { base = s; fits = refl; known = tt; reads = refl }) way
done bottom b v s r nf way = done_node b b Bottom bottom [] (still b) refl (λ f. f) refl (record { base = s; fits = refl; known = tt; reads = refl }) way
done (class w) b v s r nf way = done_class b w v s nf way
done (neg t) b v s r nf way =
    done_over b b t (neg t) (Not _) (still b) refl (λ f. f) (done t b v s r nf) refl (λ x. x) (names_known (neg t) b r nf) (ap neg) way
done (and t u) b (v, w) s r nf way =
    done_pair b t u (and t u) (And _ _) r nf (done t b v s) (λ p q. done u _ w p q nf) refl (λ x y. and_from _ _ x y) (names_known (and t u) b r nf) (λ x y. λ i. and (x i) (y i)) way
done (or t u) b (v, w) s r nf way =
    done_pair b t u (or t u) (Or _ _) r nf (done t b v s) (λ p q. done u _ w p q nf) refl (λ x y. and_from _ _ x y) (names_known (or t u) b r nf) (λ x y. λ i. or (x i) (y i)) way
done (exists w t) b (l, v) s r nf way =
    done_link b w t (exists w t) (Exists _ _) l r nf (λ p. done t _ v (name_sound OfLink w b s) p nf) refl (λ x y. and_from _ _ x y) (names_known (exists w t) b r nf) (λ x y. λ i. exists (x i) (y i)) way
done (forall w t) b (l, v) s r nf way =
    done_link b w t (forall w t) (Forall _ _) l r nf (λ p. done t _ v (name_sound OfLink w b s) p nf) refl (λ x y. and_from _ _ x y) (names_known (forall w t) b r nf) (λ x y. λ i. forall (x i) (y i)) way
done (may i t) b (lo, hi, v) s r nf way =
    done_over b b t (may i t) (May i _) (still b) refl (λ f. f) (done t b v s r nf) refl (reader_fits i _ lo hi) (names_known (may i t) b r nf) (ap (may i)) way
done (must i t) b (lo, hi, v) s r nf way =
    done_over b b t (must i t) (Must i _) (still b) refl (λ f. f) (done t b v s r nf) refl (reader_fits i _ lo hi) (names_known (must i t) b r nf) (ap (must i)) way
