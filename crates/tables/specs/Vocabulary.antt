-- Names by number: a name that is new is put behind those that are known. Assumes nothing.
use Rattle.std.specs.Prelude.{ℕ, cond, List, [], ◌∷◌, ◌++◌}
use Rattle.distinct.specs.Numbering.{number, known}
use Rattle.terms.specs.Term.{Term, Spelled, top, bottom, class, neg, and, or, exists, forall, may, must}

abbrev pub with_name : List (List ℕ) → List ℕ → List (List ℕ)
with_name xs w = cond (known xs w) xs (xs ++ w ∷ [])

-- one after another
abbrev pub with_names : List (List ℕ) → List (List ℕ) → List (List ℕ)
with_names xs [] = xs
with_names xs (w ∷ ws) = with_names (with_name xs w) ws

-- the names of a term, from left to right, for each sort
abbrev pub class_names : Spelled → List (List ℕ)
class_names top = []
class_names bottom = []
class_names (class w) = w ∷ []
class_names (neg t) = class_names t
class_names (and t u) = class_names t ++ class_names u
class_names (or t u) = class_names t ++ class_names u
class_names (exists r t) = class_names t
class_names (forall r t) = class_names t
class_names (may i t) = class_names t
class_names (must i t) = class_names t

abbrev pub link_names : Spelled → List (List ℕ)
link_names top = []
link_names bottom = []
link_names (class w) = []
link_names (neg t) = link_names t
link_names (and t u) = link_names t ++ link_names u
link_names (or t u) = link_names t ++ link_names u
link_names (exists r t) = r ∷ link_names t
link_names (forall r t) = r ∷ link_names t
link_names (may i t) = link_names t
link_names (must i t) = link_names t

-- the term over the numbers of its names
abbrev pub numbered : List (List ℕ) → List (List ℕ) → Spelled → Term ℕ
numbered cs ls top = top
numbered cs ls bottom = bottom
numbered cs ls (class w) = class (number cs w)
numbered cs ls (neg t) = neg (numbered cs ls t)
numbered cs ls (and t u) = and (numbered cs ls t) (numbered cs ls u)
numbered cs ls (or t u) = or (numbered cs ls t) (numbered cs ls u)
numbered cs ls (exists r t) = exists (number ls r) (numbered cs ls t)
numbered cs ls (forall r t) = forall (number ls r) (numbered cs ls t)
numbered cs ls (may i t) = may i (numbered cs ls t)
numbered cs ls (must i t) = must i (numbered cs ls t)
