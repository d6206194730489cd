-- What an entered term's number shows: the term's own writing, which stands there alone. Assumes nothing.
use Rattle.std.proofs.Common.{◌≡◌, ℕ, [], get_or, sym, ap, ◌∙◌, arith}
use Rattle.distinct.specs.Numbering.{number}
use Rattle.tables.proofs.Known.{Known, known_at, all_known, spelled_numbered}
use Rattle.tables.proofs.Spelling.{spot}
use Rattle.tables.proofs.Texts.{texts_long, text_at}
use Rattle.tables.specs.Book.{Book}
use Rattle.tables.specs.Enters.{Enters}
use Rattle.tables.specs.Texts.{texts}
use Rattle.terms.specs.Nodes.{spelled, tree}
use Rattle.terms.specs.Term.{Spelled, written}

module _ (b : Book) (t : Spelled) (i : ℕ) (c : Book) (e : Enters b t i c) where
  pub enters_known : Known c.classes c.links t
  enters_known = known_at (sym e.classes) (sym e.links) t (all_known b.classes b.links t)

  -- node i, spelled, is the term
  pub enters_spells : spelled c.classes c.links (tree c.nodes i) ≡ t
  enters_spells = ap (spelled c.classes c.links) e.reads ∙ spelled_numbered c.classes c.links t enters_known

  pub enters_text : get_or (texts c) i [] ≡ written t
  enters_text = text_at c i e.below ∙ ap written enters_spells

  -- and i is the one number under which it stands
  pub enters_number : number (texts c) (written t) ≡ i
  enters_number =
      let long = texts_long c in
      let below = e.below in
      ap (number (texts c)) (sym enters_text) ∙ spot (texts c) e.sound.different i (omega arith)
