-- A name that is put in leaves the tables sound, and their terms written as they were. Assumes nothing.
use Rattle.std.proofs.Common.{◌≡◌, ℕ, ◌≤◌, true, false, ltb, leb, List, [], map, length, Some, None, sym, refl, ap, ◌∙◌, subst, arith}
use Rattle.std.proofs.lemmas.Bool.{or_parts}
use Rattle.std.proofs.lemmas.Grind.{common_steps}
use Rattle.std.proofs.lemmas.List.{length-map, length_push}
use Rattle.distinct.specs.Numbering.{Apart, number, added}
use Rattle.names.specs.Name.{legal}
use Rattle.tables.proofs.Adding.{added_some, keep_none}
use Rattle.tables.proofs.Behind.{Follow, follow_same, follow_with}
use Rattle.tables.proofs.Numbers.{front_long, with_fits, keep_is, label_is}
use Rattle.tables.proofs.Texts.{texts_long, texts_named}
use Rattle.tables.specs.Book.{Book, keep, names_of, limit_of, book_with, labelled}
use Rattle.tables.specs.Enters.{Within, Orderly}
use Rattle.tables.specs.Texts.{texts}
use Rattle.tables.specs.Vocabulary.{with_name}
use Rattle.terms.proofs.Trees.{ordered_more}
use Rattle.terms.specs.Kinds.{show_node}
use Rattle.terms.specs.Nodes.{ordered}
use Rattle.terms.specs.declared.nodes.Sort.{Sort}
use Rattle.terms.specs.declared.nodes.Sort.TheVariants.{OfClass, OfLink}

-- more names
more_names : (b c : Book) → Orderly b → Follow b.classes c.classes → Follow b.links c.links → c.nodes ≡ b.nodes → Orderly c × (texts c ≡ texts b)
more_names b c s p q e =
    let same : texts c ≡ texts b = texts_named b c s.fair p.front q.front e in (
      record {
        fair = subst (λ ns. ordered (length c.classes) (length c.links) 0 ns ≡ true) (sym e) (ordered_more (length b.classes) (length b.links) (length c.classes) (length c.links) 0 (front_long _ _ p.front) (front_long _ _ q.front) b.nodes s.fair);
        apart = subst (λ ns. Apart (map show_node ns)) (sym e) s.apart;
        classes_apart = p.apart;
        links_apart = q.apart;
        classes_legal = p.names;
        links_legal = q.names;
        different = subst Apart (sym same) s.different;
      },
      same,
    )

abbrev other : Sort → Sort
other OfClass = OfLink
other OfLink = OfClass

-- a name of either sort
pub one_name : (k : Sort) (b c : Book) (w : List ℕ) → Orderly b → legal w ≡ true → names_of k c ≡ with_name (names_of k b) w → names_of (other k) c ≡ names_of (other k) b → c.nodes ≡ b.nodes → Orderly c × (texts c ≡ texts b)
one_name OfClass b c w s l p q e = more_names b c s (follow_with b.classes c.classes w l s.classes_apart s.classes_legal p) (follow_same b.links c.links s.links_apart s.links_legal q) e
one_name OfLink b c w s l p q e = more_names b c s (follow_same b.classes c.classes s.classes_apart s.classes_legal q) (follow_with b.links c.links w l s.links_apart s.links_legal p) e

-- from b to c that name is put in where it fits, and nothing else
record Put (k : Sort) (w : List ℕ) (b c : Book) : Type 0 where
  names : names_of k c ≡ keep (limit_of k b) (names_of k b) w (names_of k b) w
  others : names_of (other k) c ≡ names_of (other k) b
  nodes : c.nodes ≡ b.nodes
  limit : limit_of k c ≡ limit_of k b
  other_limit : limit_of (other k) c ≡ limit_of (other k) b
  node_limit : c.node_limit ≡ b.node_limit

put : (k : Sort) (w : List ℕ) (b : Book) → Put k w b (book_with k w b)
put OfClass w b = record { names = refl; others = refl; nodes = refl; limit = refl; other_limit = refl; node_limit = refl }
put OfLink w b = record { names = refl; others = refl; nodes = refl; limit = refl; other_limit = refl; node_limit = refl }

put_label : (k : Sort) (w : List ℕ) (b : Book) → Put k w b (labelled k w b)
put_label OfClass w b = record { names = refl; others = refl; nodes = refl; limit = refl; other_limit = refl; node_limit = refl }
put_label OfLink w b = record { names = refl; others = refl; nodes = refl; limit = refl; other_limit = refl; node_limit = refl }

within : (k : Sort) (w : List ℕ) (b c : Book) → Put k w b c → length (names_of k c) ≤ limit_of k b → Within b → Within c
within OfClass w b c p h r = let l = ap length p.others in let n = ap length p.nodes in record { classes = omega arith; links = omega arith; nodes = omega arith }
within OfLink w b c p h r = let l = ap length p.others in let n = ap length p.nodes in record { classes = omega arith; links = omega arith; nodes = omega arith }

module _ (k : Sort) (b : Book) (w : List ℕ) where
  -- a name that is read, in a term
  pub label_sound : Orderly b → legal w ≡ true → (labelled k w b).names_full ≡ false → Orderly (labelled k w b) × (texts (labelled k w b) ≡ texts b)
  label_sound s l f =
      let p = put_label k w b in
      one_name k b (labelled k w b) w s l (p.names ∙ keep_is (limit_of k b) (names_of k b) w (or_parts b.names_full _ f).1) p.others refl

  -- a name that is added by itself
  pub name_sound : (i : ℕ) → Orderly b → Within b → legal w ≡ true → added (names_of k b) (limit_of k b) w ≡ Some i → Orderly (book_with k w b) × Within (book_with k w b) × (names_of k (book_with k w b) ≡ with_name (names_of k b) w) × (i ≡ number (names_of k (book_with k w b)) w) × (texts (book_with k w b) ≡ texts b)
  name_sound i s r l e =
      let c = book_with k w b in
      let p = put k w b in
      let (free, place) = added_some (limit_of k b) (names_of k b) w i (sym e) in
      let is : names_of k c ≡ with_name (names_of k b) w = p.names ∙ keep_is (limit_of k b) (names_of k b) w free in
      let fits = with_fits (limit_of k b) (names_of k b) w free (room k b r) in
      let long = ap length is in
      let (sound, same) = one_name k b c w s l is p.others p.nodes in
      (sound, within k w b c p (omega arith) r, is, place ∙ label_is (limit_of k b) (names_of k b) w free ∙ ap (λ xs. number xs w) (sym is), same)
    where
      room : (k : Sort) (b : Book) → Within b → length (names_of k b) ≤ limit_of k b
      room OfClass b r = r.classes
      room OfLink b r = r.links

module _ (xs : List (List ℕ)) (limit : ℕ) (w : List ℕ) where
  -- no place: with it there would be more than the limit
  pub none_fits : added xs limit w ≡ None → ltb limit (length (with_name xs w)) ≡ true
  none_fits e = let p = length_push xs w in grind (arith, common_steps)

  pub some_fits : (i : ℕ) → length xs ≤ limit → added xs limit w ≡ Some i → leb (length (with_name xs w)) limit ≡ true
  some_fits i r e = let p = length_push xs w in grind (arith, common_steps)

-- a name that found no place changes nothing
pub name_none : (k : Sort) (b : Book) (w : List ℕ) → added (names_of k b) (limit_of k b) w ≡ None → book_with k w b ≡ b
name_none OfClass b w e = let h = keep_none b.class_limit b.classes w e in λ i. record { classes = h i; class_limit = b.class_limit; links = b.links; link_limit = b.link_limit; nodes = b.nodes; node_limit = b.node_limit; names_full = b.names_full; terms_full = b.terms_full }
name_none OfLink b w e = let h = keep_none b.link_limit b.links w e in λ i. record { classes = b.classes; class_limit = b.class_limit; links = h i; link_limit = b.link_limit; nodes = b.nodes; node_limit = b.node_limit; names_full = b.names_full; terms_full = b.terms_full }

-- empty tables
pub empty_sound : (b : Book) → b.classes ≡ [] → b.links ≡ [] → b.nodes ≡ [] → Orderly b × Within b
empty_sound b p q e =
    let c = ap length p in
    let l = ap length q in
    let n = ap length e in
    let t = texts_long b in (
      record {
        fair = ap (ordered (length b.classes) (length b.links) 0) e;
        apart = λ i j ij h same. let m = length-map b.nodes show_node in omega arith;
        classes_apart = λ i j ij h same. omega arith;
        links_apart = λ i j ij h same. omega arith;
        classes_legal = λ k h. absurd (omega arith);
        links_legal = λ k h. absurd (omega arith);
        different = λ i j ij h same. omega arith;
      },
      record { classes = omega arith; links = omega arith; nodes = omega arith },
    )
