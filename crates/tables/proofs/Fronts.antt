-- Entering only puts behind, whatever lacks a place; so it can be taken back. Assumes nothing.
use Rattle.std.proofs.Common.{◌≡◌, ℕ, false, ltb, List, [], ◌∷◌, ◌++◌, map, length, take, sym, refl, ap, ◌∙◌, subst}
use Rattle.std.proofs.lemmas.Bool.{cond_both}
use Rattle.std.proofs.lemmas.List.{take_at}
use Rattle.distinct.specs.Numbering.{known}
use Rattle.tables.proofs.Numbers.{front_refl, front_trans, all_front}
use Rattle.tables.specs.Book.{Book, keep, book_with, labelled, noded}
use Rattle.tables.specs.Enters.{Enters}
use Rattle.tables.specs.Entry.{Front}
use Rattle.tables.specs.Undo.{cut}
use Rattle.tables.specs.Vocabulary.{class_names, link_names}
use Rattle.tables.specs.declared.tables.Mark.{Mark}
use Rattle.terms.specs.Kinds.{show_node}
use Rattle.terms.specs.Term.{Spelled}
use Rattle.terms.specs.declared.nodes.Node.{Node}
use Rattle.terms.specs.declared.nodes.Sort.{Sort}
use Rattle.terms.specs.declared.nodes.Sort.TheVariants.{OfClass, OfLink}

pub keep_front : {X : Type 0} (limit : ℕ) (ys : List (List ℕ)) (y : List ℕ) (xs : List X) (x : X) → Front xs (keep limit ys y xs x)
keep_front limit ys y xs x = cond_both (known ys y) xs _ (Front xs) (λ _. front_refl xs) (λ _. cond_both (ltb (length ys) limit) (xs ++ x ∷ []) xs (Front xs) (λ _. (x ∷ [], refl)) (λ _. front_refl xs))

pub record Fronts (b c : Book) : Type 0 where
  pub classes : Front b.classes c.classes
  pub links : Front b.links c.links
  pub nodes : Front b.nodes c.nodes

pub fronts_refl : (b : Book) → Fronts b b
fronts_refl b = record { classes = front_refl b.classes; links = front_refl b.links; nodes = front_refl b.nodes }

pub fronts_trans : (b c d : Book) → Fronts b c → Fronts c d → Fronts b d
fronts_trans b c d p q =
    record { classes = front_trans b.classes c.classes d.classes p.classes q.classes; links = front_trans b.links c.links d.links p.links q.links; nodes = front_trans b.nodes c.nodes d.nodes p.nodes q.nodes }

-- a name, and a node, is put in
pub name_fronts : (k : Sort) (w : List ℕ) (b : Book) → Fronts b (book_with k w b)
name_fronts OfClass w b = record { classes = keep_front b.class_limit b.classes w b.classes w; links = front_refl b.links; nodes = front_refl b.nodes }
name_fronts OfLink w b = record { classes = front_refl b.classes; links = keep_front b.link_limit b.links w b.links w; nodes = front_refl b.nodes }

pub label_fronts : (k : Sort) (w : List ℕ) (b : Book) → Fronts b (labelled k w b)
label_fronts k w b = let p = name_fronts k w b in record { classes = p.classes; links = p.links; nodes = front_refl b.nodes }

pub node_fronts : (n : Node) (b : Book) → Fronts b (noded n b)
node_fronts n b = record { classes = front_refl b.classes; links = front_refl b.links; nodes = keep_front b.node_limit (map show_node b.nodes) (show_node n) b.nodes n }

pub enters_fronts : (b : Book) (t : Spelled) (i : ℕ) (c : Book) → Enters b t i c → Fronts b c
enters_fronts b t i c e =
    record { classes = subst (Front b.classes) (sym e.classes) (all_front b.classes (class_names t)); links = subst (Front b.links) (sym e.links) (all_front b.links (link_names t)); nodes = e.nodes }

-- limits stay
pub record Limits (b c : Book) : Type 0 where
  pub classes : c.class_limit ≡ b.class_limit
  pub links : c.link_limit ≡ b.link_limit
  pub nodes : c.node_limit ≡ b.node_limit

pub limits_refl : (b : Book) → Limits b b
limits_refl b = record { classes = refl; links = refl; nodes = refl }

pub limits_trans : (b c d : Book) → Limits b c → Limits c d → Limits b d
limits_trans b c d l m = record { classes = m.classes ∙ l.classes; links = m.links ∙ l.links; nodes = m.nodes ∙ l.nodes }

front_cut : {X : Type 0} (xs ys : List X) (n : ℕ) → Front xs ys → n ≡ length xs → take n ys ≡ xs
front_cut xs ys n (zs, e) l = ap (take n) e ∙ take_at xs zs n (sym l)

-- cut back to the mark of a book that it begins with, a book is that book
pub back : (b c : Book) (m : Mark) → Fronts b c → Limits b c → m.classes ≡ length b.classes → m.links ≡ length b.links → m.nodes ≡ length b.nodes → b.names_full ≡ false → b.terms_full ≡ false → cut m c ≡ b
back b c m f l p q r s u =
    let cs = front_cut b.classes c.classes m.classes f.classes p in
    let ls = front_cut b.links c.links m.links f.links q in
    let ns = front_cut b.nodes c.nodes m.nodes f.nodes r in
    let no = sym s in
    let none = sym u in
    λ i. record { classes = cs i; class_limit = l.classes i; links = ls i; link_limit = l.links i; nodes = ns i; node_limit = l.nodes i; names_full = no i; terms_full = none i }
