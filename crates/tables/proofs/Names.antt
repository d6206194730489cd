-- The names after a term was entered: those of the term put behind, unless a place was lacking. Assumes nothing.
use Rattle.std.proofs.Common.{◌≡◌, ℕ, ◌≤◌, false, List, [], ◌∷◌, ◌++◌, length, sym, refl, ap, ◌∙◌, subst, arith}
use Rattle.std.proofs.lemmas.Bool.{or_parts, or_from}
use Rattle.tables.proofs.Fronts.{Fronts, Limits, fronts_refl, fronts_trans, label_fronts, node_fronts, limits_refl, limits_trans}
use Rattle.tables.proofs.Numbers.{keep_is, with_fits, fits_with, all_front, all_append, front_long}
use Rattle.tables.specs.Book.{Book, names_of, limit_of, lacks, labelled, label_of, noded}
use Rattle.tables.specs.Entered.{entered}
use Rattle.tables.specs.Entry.{Room, Named}
use Rattle.tables.specs.Vocabulary.{with_names, class_names, link_names}
use Rattle.terms.specs.Term.{Spelled, top, bottom, class, neg, and, or, exists, forall, may, must}
use Rattle.terms.specs.declared.nodes.Node.{Node}
use Rattle.terms.specs.declared.nodes.Node.TheVariants.{Top, Bottom, Class, Not, And, Or, Exists, Forall, May, Must}
use Rattle.terms.specs.declared.nodes.Sort.{Sort}
use Rattle.terms.specs.declared.nodes.Sort.TheVariants.{OfClass, OfLink}

-- all names find places
record Fits (b : Book) (cs ls : List (List ℕ)) : Type 0 where
  was : b.names_full ≡ false
  classes : length (with_names b.classes cs) ≤ b.class_limit
  links : length (with_names b.links ls) ≤ b.link_limit

-- from b to c those names were put in, and nodes
pub record Went (b : Book) (cs ls : List (List ℕ)) (c : Book) : Type 0 where
  pub fronts : Fronts b c
  pub limits : Limits b c
  -- a flag that is down at the end was down before
  pub names_was : c.names_full ≡ false → b.names_full ≡ false
  pub terms_was : c.terms_full ≡ false → b.terms_full ≡ false
  -- where no name lacked a place at the end
  pub named : Room b → c.names_full ≡ false → Named b c cs ls
  -- and where all names find a place, none lacks one
  fits : Fits b cs ls → c.names_full ≡ false

pub room_of : {b c : Book} {cs ls : List (List ℕ)} → Named b c cs ls → Room c
room_of n = record { classes = n.class_fits; links = n.link_fits }

-- a name of each sort

abbrev as_class : Sort → List ℕ → List (List ℕ)
as_class OfClass w = w ∷ []
as_class OfLink w = []

abbrev as_link : Sort → List ℕ → List (List ℕ)
as_link OfClass w = []
as_link OfLink w = w ∷ []

module _ (w : List ℕ) (b : Book) where
  label_named : (k : Sort) → Room b → (labelled k w b).names_full ≡ false → Named b (labelled k w b) (as_class k w) (as_link k w)
  label_named OfClass r f =
      let (was, l) = or_parts b.names_full _ f in
      let is = keep_is b.class_limit b.classes w l in
      record { was = was; classes = is; links = refl; class_fits = subst (λ xs. length xs ≤ b.class_limit) (sym is) (with_fits b.class_limit b.classes w l r.classes); link_fits = r.links }
  label_named OfLink r f =
      let (was, l) = or_parts b.names_full _ f in
      let is = keep_is b.link_limit b.links w l in
      record { was = was; classes = refl; links = is; class_fits = r.classes; link_fits = subst (λ xs. length xs ≤ b.link_limit) (sym is) (with_fits b.link_limit b.links w l r.links) }

  label_fits : (k : Sort) → Fits b (as_class k w) (as_link k w) → lacks (limit_of k b) (names_of k b) w ≡ false
  label_fits OfClass f = fits_with b.class_limit b.classes w f.classes
  label_fits OfLink f = fits_with b.link_limit b.links w f.links

  pub went_label : (k : Sort) → Went b (as_class k w) (as_link k w) (labelled k w b)
  went_label k =
      record {
        fronts = label_fronts k w b;
        limits = record { classes = refl; links = refl; nodes = refl };
        names_was = λ f. (or_parts b.names_full _ f).0;
        terms_was = λ f. f;
        named = label_named k;
        fits = λ f. or_from b.names_full _ f.was (label_fits k f);
      }

went_none : (b : Book) → Went b [] [] b
went_none b =
    record {
      fronts = fronts_refl b;
      limits = limits_refl b;
      names_was = λ f. f;
      terms_was = λ f. f;
      named = λ r f. record { was = f; classes = refl; links = refl; class_fits = r.classes; link_fits = r.links };
      fits = λ f. f.was;
    }

went_node : {b c : Book} {cs ls : List (List ℕ)} (n : Node) → Went b cs ls c → Went b cs ls (noded n c)
went_node {b} {c} n p =
    record {
      fronts = fronts_trans b c (noded n c) p.fronts (node_fronts n c);
      limits = let l = p.limits in record { classes = l.classes; links = l.links; nodes = l.nodes };
      names_was = p.names_was;
      terms_was = λ f. p.terms_was (or_parts c.terms_full _ f).0;
      named = λ r f. let m = p.named r f in record { was = m.was; classes = m.classes; links = m.links; class_fits = m.class_fits; link_fits = m.link_fits };
      fits = p.fits;
    }

-- one after the other

fits_room : {b : Book} {cs ls : List (List ℕ)} → Fits b cs ls → Room b
fits_room {b} {cs} {ls} f =
    record {
      classes = let l = front_long _ _ (all_front b.classes cs) in let h = f.classes in omega arith;
      links = let l = front_long _ _ (all_front b.links ls) in let h = f.links in omega arith;
    }

module _ (b : Book) (cs ls cs' ls' : List (List ℕ)) where
  fits_first : Fits b (cs ++ cs') (ls ++ ls') → Fits b cs ls
  fits_first f =
      let c = ap length (all_append b.classes cs cs') in
      let l = ap length (all_append b.links ls ls') in
      let cl = front_long _ _ (all_front (with_names b.classes cs) cs') in
      let ll = front_long _ _ (all_front (with_names b.links ls) ls') in
      record { was = f.was; classes = let h = f.classes in omega arith; links = let h = f.links in omega arith }

  fits_then : (c : Book) → Limits b c → Named b c cs ls → c.names_full ≡ false → Fits b (cs ++ cs') (ls ++ ls') → Fits c cs' ls'
  fits_then c l m n f =
      let p = ap length (all_append b.classes cs cs' ∙ ap (λ xs. with_names xs cs') (sym m.classes)) in
      let q = ap length (all_append b.links ls ls' ∙ ap (λ xs. with_names xs ls') (sym m.links)) in
      let x = l.classes in
      let y = l.links in
      record { was = n; classes = let h = f.classes in omega arith; links = let h = f.links in omega arith }

went_then : {b c d : Book} {cs ls cs' ls' : List (List ℕ)} → Went b cs ls c → Went c cs' ls' d → Went b (cs ++ cs') (ls ++ ls') d
went_then {b} {c} {d} {cs} {ls} {cs'} {ls'} p q =
    record {
      fronts = fronts_trans b c d p.fronts q.fronts;
      limits = limits_trans b c d p.limits q.limits;
      names_was = λ f. p.names_was (q.names_was f);
      terms_was = λ f. p.terms_was (q.terms_was f);
      named = λ r f.
          let m = p.named r (q.names_was f) in
          let n = q.named (room_of m) f in
          record {
            was = m.was;
            classes = n.classes ∙ ap (λ xs. with_names xs cs') m.classes ∙ sym (all_append b.classes cs cs');
            links = n.links ∙ ap (λ xs. with_names xs ls') m.links ∙ sym (all_append b.links ls ls');
            class_fits = n.class_fits;
            link_fits = n.link_fits;
          };
      fits = λ f. let n = p.fits (fits_first b cs ls cs' ls' f) in q.fits (fits_then b cs ls cs' ls' c p.limits (p.named (fits_room (fits_first b cs ls cs' ls' f)) n) n f);
    }

pub went : (t : Spelled) (b : Book) → Went b (class_names t) (link_names t) (entered t b).book
unfolding entered
went top b = went_node Top (went_none b)
went bottom b = went_node Bottom (went_none b)
went (class w) b = went_node (Class (label_of OfClass w b)) (went_label w b OfClass)
went (neg t) b = went_node (Not _) (went t b)
went (and t u) b = went_node (And _ _) (went_then (went t b) (went u _))
went (or t u) b = went_node (Or _ _) (went_then (went t b) (went u _))
went (exists r t) b = went_node (Exists _ _) (went_then (went_label r b OfLink) (went t _))
went (forall r t) b = went_node (Forall _ _) (went_then (went_label r b OfLink) (went t _))
went (may i t) b = went_node (May i _) (went t b)
went (must i t) b = went_node (Must i _) (went t b)

-- in numbers: no name lacks a place exactly if the names of the book with those of the term are within the limits
pub names_fit_lem : (t : Spelled) (b : Book) → b.names_full ≡ false → length (with_names b.classes (class_names t)) ≤ b.class_limit → length (with_names b.links (link_names t)) ≤ b.link_limit → (entered t b).book.names_full ≡ false
names_fit_lem t b w c l = (went t b).fits (record { was = w; classes = c; links = l })
