-- An expression holds the term that was read, and is written with that term's bytes. Assumes nothing.
use Rattle.std.proofs.Common.{◌≡◌, ℕ, zero, suc, ◌-◌, ◌<◌, ◌≤◌, true, Ok, List, [], ◌∷◌, map, length, get_or, vec_items, sym, refl, ap, ◌∙◌, subst, arith}
use Rattle.std.proofs.lemmas.List.{length-map}
use Rattle.terms.specs.Built.{Built}
use Rattle.expressions.specs.Draft.{contents, Labels, Makes}
use Rattle.expressions.specs.Expression.{term_of}
use Rattle.names.specs.Name.{Legal}
use Rattle.terms.specs.Nodes.{name_bytes, ordered, spelled, tree}
use Rattle.expressions.specs.Parts.{Ordered, term_in, whole}
use Rattle.expressions.specs.declared.parts.Parts.{Parts}
use Rattle.terms.specs.Term.{Term, Spelled, top, bottom, class, neg, and, or, exists, forall, may, must, written, depth, Valid, Readable}
use Rattle.terms.specs.Told.{IsRead}
use Rattle.expressions.specs.declared.drafts.Draft.{Draft}
use Rattle.expressions.specs.declared.kept.Expression.{Expression}
use Rattle.names.specs.declared.named.Name.{Name}
use Rattle.expressions.proofs.Drafted.{Fair, says, sufficed}
use Rattle.names.proofs.Flaws.{is_legal, legal_when}
use Rattle.terms.proofs.Language.{reading_complete}
use Rattle.terms.proofs.Trees.{InRange, tree_range}
use Rattle.terms.proofs.Whole.{is_read}

-- reading

pub record Expressed (p : Parts) (text : List ℕ) : Type 0 where
  pub sorted : Ordered p
  pub some : 0 < length (vec_items p.nodes)
  pub shallow : depth (whole p) ≤ 32
  pub long : length text ≡ length (written (whole p))
  pub read : IsRead text (whole p)

pub expressed : (d e : Draft) (t : Spelled) (i : ℕ) (text : List ℕ) → vec_items d.parts.nodes ≡ [] → IsRead text t → Built Labels Makes t d i e → e.memory ≡ Ok tt → Expressed e.parts text
expressed d e t i text none r b s =
    let p = e.parts in
    let fair : Fair (contents d.parts) = subst (λ ns. ordered (length (contents d.parts).classes) (length (contents d.parts).links) 0 ns ≡ true) (sym none) refl in
    let h = says t (contents d.parts) (contents p) i r.readable.valid fair (sufficed t d e i b s).1 in
    let last : i ≡ length (vec_items p.nodes) - 1 = omega arith in
    let is : whole p ≡ t = ap (term_in p) (sym last) ∙ h.reads in
    record {
      sorted = simp length-map at h.grew.fair;
      some = omega arith;
      shallow = subst (λ u. depth u ≤ 32) (sym is) r.readable.shallow;
      long = ap length (sym r.text ∙ ap written (sym is));
      read = subst (IsRead text) (sym is) r;
    }

-- writing

name_legal : (cs : List Name) (k : ℕ) → k < length cs → Legal (get_or (map name_bytes cs) k [])
name_legal [] k l = absurd (omega arith)
name_legal (n ∷ cs) zero l = legal_when (name_bytes n) (is_legal (name_bytes n) n.fine)
name_legal (n ∷ cs) (suc k) l = name_legal cs k (omega arith)

range_valid : (cs ls : List Name) (t : Term ℕ) → InRange (length cs) (length ls) t → Valid (spelled (map name_bytes cs) (map name_bytes ls) t)
range_valid cs ls top r = tt
range_valid cs ls bottom r = tt
range_valid cs ls (class c) r = name_legal cs c r
range_valid cs ls (neg t) r = range_valid cs ls t r
range_valid cs ls (and t u) (r, s) = (range_valid cs ls t r, range_valid cs ls u s)
range_valid cs ls (or t u) (r, s) = (range_valid cs ls t r, range_valid cs ls u s)
range_valid cs ls (exists l t) (r, s) = (name_legal ls l r, range_valid cs ls t s)
range_valid cs ls (forall l t) (r, s) = (name_legal ls l r, range_valid cs ls t s)
range_valid cs ls (may i t) ((a, b), s) = (a, b, range_valid cs ls t s)
range_valid cs ls (must i t) ((a, b), s) = (a, b, range_valid cs ls t s)

-- what an expression is written with reads back as its term
pub reads_back : (x : Expression) → IsRead (written (term_of x)) (term_of x)
reads_back x =
    let p = x.parts in
    let ns = vec_items p.nodes in
    let last : length ns - 1 < length ns = omega arith in
    let range = tree_range (length (vec_items p.classes)) (length (vec_items p.links)) ns (length ns - 1) x.sorted last in
    let fits : Readable (term_of x) = record { valid = range_valid (vec_items p.classes) (vec_items p.links) (tree ns (length ns - 1)) range; shallow = x.shallow } in
    is_read (written (term_of x)) (term_of x) (reading_complete (term_of x) fits)
