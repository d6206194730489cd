-- A table of nodes, parts before wholes, and the trees that it stands for. Assumes nothing.
use Rattle.std.specs.Prelude.{ℕ, suc, Bool, true, ◌&&◌, List, [], ◌∷◌, ◌++◌, map, take, nat_le, nat_lt, slice_index_or}
use Rattle.terms.specs.Term.{Term, Spelled, top, bottom, class, neg, and, or, exists, forall, may, must}
use Rattle.names.specs.declared.named.Name.{Name}
use Rattle.terms.specs.declared.nodes.Node.{Node}
use Rattle.terms.specs.declared.nodes.Node.TheVariants.{Top, Bottom, Class, Not, And, Or, Exists, Forall, May, Must}

abbrev pub name_bytes : Name → List ℕ
name_bytes n = take n.len n.bytes

-- The node at place p has its parts before p, its names among so many classes and links, and a reader from 1 to 8.
abbrev pub sound : ℕ → ℕ → ℕ → Node → Bool
sound classes links p Top = true
sound classes links p Bottom = true
sound classes links p (Class c) = nat_lt c classes
sound classes links p (Not a) = nat_lt a p
sound classes links p (And a b) = nat_lt a p && nat_lt b p
sound classes links p (Or a b) = nat_lt a p && nat_lt b p
sound classes links p (Exists l a) = nat_lt l links && nat_lt a p
sound classes links p (Forall l a) = nat_lt l links && nat_lt a p
sound classes links p (May i a) = (nat_le 1 i && nat_le i 8) && nat_lt a p
sound classes links p (Must i a) = (nat_le 1 i && nat_le i 8) && nat_lt a p

-- each node of a table whose first is at place p
abbrev pub ordered : ℕ → ℕ → ℕ → List Node → Bool
ordered classes links p [] = true
ordered classes links p (n ∷ ns) = sound classes links p n && ordered classes links (suc p) ns

-- the tree of a node, over the trees of the nodes before it
abbrev pub decoded : List (Term ℕ) → Node → Term ℕ
decoded ts Top = top
decoded ts Bottom = bottom
decoded ts (Class c) = class c
decoded ts (Not a) = neg (slice_index_or ts a bottom)
decoded ts (And a b) = and (slice_index_or ts a bottom) (slice_index_or ts b bottom)
decoded ts (Or a b) = or (slice_index_or ts a bottom) (slice_index_or ts b bottom)
decoded ts (Exists l a) = exists l (slice_index_or ts a bottom)
decoded ts (Forall l a) = forall l (slice_index_or ts a bottom)
decoded ts (May i a) = may i (slice_index_or ts a bottom)
decoded ts (Must i a) = must i (slice_index_or ts a bottom)

abbrev pub trees_after : List (Term ℕ) → List Node → List (Term ℕ)
trees_after ts [] = ts
trees_after ts (n ∷ ns) = trees_after (ts ++ decoded ts n ∷ []) ns

unfoldable pub trees : List Node → List (Term ℕ)
trees ns = trees_after [] ns

abbrev pub tree : List Node → ℕ → Term ℕ
tree ns i = slice_index_or (trees ns) i bottom

-- a term over numbers, spelled with the names that have these numbers
abbrev pub spelled : List (List ℕ) → List (List ℕ) → Term ℕ → Spelled
spelled cs ls top = top
spelled cs ls bottom = bottom
spelled cs ls (class c) = class (slice_index_or cs c [])
spelled cs ls (neg t) = neg (spelled cs ls t)
spelled cs ls (and t u) = and (spelled cs ls t) (spelled cs ls u)
spelled cs ls (or t u) = or (spelled cs ls t) (spelled cs ls u)
spelled cs ls (exists l t) = exists (slice_index_or ls l []) (spelled cs ls t)
spelled cs ls (forall l t) = forall (slice_index_or ls l []) (spelled cs ls t)
spelled cs ls (may i t) = may i (spelled cs ls t)
spelled cs ls (must i t) = must i (spelled cs ls t)

-- the term that node i stands for
abbrev pub term_at : List Name → List Name → List Node → ℕ → Spelled
term_at cs ls ns i = spelled (map name_bytes cs) (map name_bytes ls) (tree ns i)
