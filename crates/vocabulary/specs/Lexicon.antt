-- The vocabulary of a sheet: names by number for each sort, and the different terms. Assumes nothing.
use Rattle.std.specs.Prelude.{ℕ, List, []}
use Rattle.tables.specs.Texts.{parts}
use Rattle.tables.specs.Vocabulary.{with_name, with_names, class_names, link_names, numbered}
use Rattle.terms.specs.Term.{Term, Spelled}

-- Each list is in order of first acceptance, so that a name's place is its number. Of terms it has the writings, each
-- once, parts counted: two terms that are written alike are one.
pub record Lexicon : Type 0 where
  pub classes : List (List ℕ)
  pub links : List (List ℕ)
  pub items : List (List ℕ)
  pub terms : List (List ℕ)

abbrev pub none : Lexicon
none = record { classes = []; links = []; items = []; terms = [] }

-- A name or a term that is new goes behind the others.

abbrev pub with_class : List ℕ → Lexicon → Lexicon
with_class w k = record { classes = with_name k.classes w; links = k.links; items = k.items; terms = k.terms }

abbrev pub with_link : List ℕ → Lexicon → Lexicon
with_link w k = record { classes = k.classes; links = with_name k.links w; items = k.items; terms = k.terms }

abbrev pub with_item : List ℕ → Lexicon → Lexicon
with_item w k = record { classes = k.classes; links = k.links; items = with_name k.items w; terms = k.terms }

-- the term's names from left to right, and its parts before itself
abbrev pub with_term : Spelled → Lexicon → Lexicon
with_term t k = record { classes = with_names k.classes (class_names t); links = with_names k.links (link_names t); items = k.items; terms = with_names k.terms (parts t) }

-- the term over the numbers of its names
abbrev pub term_of : Lexicon → Spelled → Term ℕ
term_of k t = numbered k.classes k.links t
