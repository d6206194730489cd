-- The terms of the tables by their writings: two terms are one exactly if they are written alike. Assumes nothing.
use Rattle.std.specs.Prelude.{ℕ, Bool, cond, ◌&&◌, List, [], ◌∷◌, ◌++◌, map, length, Ok, Err, Result, nat_le}
use Rattle.names.specs.declared.refusals.Refusal.{Refusal}
use Rattle.names.specs.declared.refusals.Refusal.TheVariants.{NamesFull, TermsFull}
use Rattle.tables.specs.Book.{Book}
use Rattle.tables.specs.Vocabulary.{with_names, class_names, link_names}
use Rattle.terms.specs.Nodes.{spelled, trees}
use Rattle.terms.specs.Parse.{after, reading}
use Rattle.terms.specs.Term.{Spelled, top, bottom, class, neg, and, or, exists, forall, may, must, written}

-- the writing of each node's term, in order
abbrev pub texts : Book → List (List ℕ)
texts b = map (λ t. written (spelled b.classes b.links t)) (trees b.nodes)

-- the writings of a term's parts, parts before wholes, left to right, its own last
abbrev pub parts : Spelled → List (List ℕ)
parts top = written top ∷ []
parts bottom = written bottom ∷ []
parts (class w) = w ∷ []
parts (neg t) = parts t ++ written (neg t) ∷ []
parts (and t u) = parts t ++ (parts u ++ written (and t u) ∷ [])
parts (or t u) = parts t ++ (parts u ++ written (or t u) ∷ [])
parts (exists r t) = parts t ++ written (exists r t) ∷ []
parts (forall r t) = parts t ++ written (forall r t) ∷ []
parts (may i t) = parts t ++ written (may i t) ∷ []
parts (must i t) = parts t ++ written (must i t) ∷ []

-- the names of the tables and of the term together are within the limits
abbrev pub names_fit : Book → Spelled → Bool
names_fit b t = nat_le (length (with_names b.classes (class_names t))) b.class_limit && nat_le (length (with_names b.links (link_names t))) b.link_limit

-- and so are the different terms among those of the tables and the term's parts
abbrev pub terms_fit : Book → Spelled → Bool
terms_fit b t = nat_le (length (with_names (texts b) (parts t))) b.node_limit

-- what entering a text answers
abbrev pub entering : Book → List ℕ → Result Spelled Refusal
entering b s = after (reading s) (λ t. cond (names_fit b t) (cond (terms_fit b t) (Ok t) (Err TermsFull)) (Err NamesFull))
