-- Taking back what was entered, and why a term was not. Assumes nothing.
use Rattle.std.specs.Prelude.{◌≡◌, ℕ, true, false, ◌⊎◌, List, take}
use Rattle.names.specs.declared.refusals.Refusal.{Refusal}
use Rattle.names.specs.declared.refusals.Refusal.TheVariants.{NamesFull, TermsFull}
use Rattle.tables.specs.Book.{Book}
use Rattle.tables.specs.Entered.{entered}
use Rattle.tables.specs.declared.tables.Mark.{Mark}
use Rattle.terms.specs.Term.{Spelled}
use Rattle.terms.specs.Told.{IsRead, IsRefused}

-- with both flags down
abbrev pub lowered : Book → Book
lowered b = record { classes = b.classes; class_limit = b.class_limit; links = b.links; link_limit = b.link_limit; nodes = b.nodes; node_limit = b.node_limit; names_full = false; terms_full = false }

-- the first entries alone, with both flags down
abbrev pub cut : Mark → Book → Book
cut m b = record { classes = take m.classes b.classes; class_limit = b.class_limit; links = take m.links b.links; link_limit = b.link_limit; nodes = take m.nodes b.nodes; node_limit = b.node_limit; names_full = false; terms_full = false }

-- A new name of the term t, entered into b, lacked a place; or no name did, but a part of it.
abbrev pub Full : Spelled → Book → Refusal → Type 0
Full t b e = let c = (entered t b).book in ((e ≡ NamesFull) × (c.names_full ≡ true)) ⊎ ((e ≡ TermsFull) × (c.names_full ≡ false) × (c.terms_full ≡ true))

-- the text s was read, and its term entered as far as there were places, which left c
abbrev pub Lacks : List ℕ → Book → Refusal → Book → Type 0
Lacks s b e c = (t : Spelled) × IsRead s t × Full t b e × (c ≡ lowered (entered t b).book)

-- Why a text was not entered: it is no term; or it lacked a place.
abbrev pub Refuses : List ℕ → Book → Refusal → Type 0
Refuses s b e = IsRefused s e ⊎ ((t : Spelled) × IsRead s t × Full t b e)
