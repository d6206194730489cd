-- The tables after a term was entered, and the term's number. Assumes nothing.
use Rattle.std.specs.Prelude.{◌≡◌, ℕ}
use Rattle.tables.specs.Book.{Book, labelled, label_of, noded, node_of}
use Rattle.terms.specs.Term.{Spelled, top, bottom, class, neg, and, or, exists, forall, may, must}
use Rattle.terms.specs.declared.nodes.Node.{Node}
use Rattle.terms.specs.declared.nodes.Node.TheVariants.{Top, Bottom, Class, Not, And, Or, Exists, Forall, May, Must}
use Rattle.terms.specs.declared.nodes.Sort.TheVariants.{OfClass, OfLink}

pub record Made : Type 0 where
  pub book : Book
  pub number : ℕ

abbrev pub made : Node → Book → Made
made n b = record { book = noded n b; number = node_of n b }

-- names as they come, parts before wholes
unfoldable pub entered : Spelled → Book → Made
entered top b = made Top b
entered bottom b = made Bottom b
entered (class w) b = made (Class (label_of OfClass w b)) (labelled OfClass w b)
entered (neg t) b = let p = entered t b in made (Not p.number) p.book
entered (and t u) b = let p = entered t b in let q = entered u p.book in made (And p.number q.number) q.book
entered (or t u) b = let p = entered t b in let q = entered u p.book in made (Or p.number q.number) q.book
entered (exists r t) b = let p = entered t (labelled OfLink r b) in made (Exists (label_of OfLink r b) p.number) p.book
entered (forall r t) b = let p = entered t (labelled OfLink r b) in made (Forall (label_of OfLink r b) p.number) p.book
entered (may i t) b = let p = entered t b in made (May i p.number) p.book
entered (must i t) b = let p = entered t b in made (Must i p.number) p.book

-- the term t, entered into b, left c and got the number i
abbrev pub IsEntered : Spelled → Book → ℕ → Book → Type 0
IsEntered t b i c = (c ≡ (entered t b).book) × (i ≡ (entered t b).number)
