-- What the calls of a vocabulary promise, from those of its tables. Assumes nothing.
use Rattle.std.proofs.Common.{◌≡◌, ℕ, ◌≤◌, cond, leb, List, [], ◌++◌, map, length, drop, Ok, Err, Result, sym, ap, ◌∙◌, arith, length-append, length-drop}
use Rattle.std.proofs.lemmas.Bool.{cond-true, le-leb}
use Rattle.names.specs.declared.refusals.Fault.{Fault}
use Rattle.names.specs.declared.refusals.Refusal.TheVariants.{ShortBuffer}
use Rattle.tables.proofs.OneName.{empty_sound}
use Rattle.tables.specs.Texts.{texts}
use Rattle.terms.specs.Nodes.{spelled, trees}
use Rattle.terms.specs.Parse.{reading}
use Rattle.terms.specs.Term.{Spelled, written}
use Rattle.vocabulary.specs.Entries.{place_text}
use Rattle.vocabulary.specs.Held.{Held, InOrder, lexicon}
use Rattle.vocabulary.specs.Lexicon.{Lexicon, none}
use Rattle.names.specs.Refusal.{at}
use Rattle.vocabulary.specs.Placing.{thus, in_field, place_term, spelling}

no_texts : (h : Held) → h.book.nodes ≡ [] → texts h.book ≡ []
unfolding trees
no_texts h e = ap (λ ns. map (λ t. written (spelled h.book.classes h.book.links t)) (trees ns)) e

-- empty tables
pub fresh : (h : Held) → h.book.classes ≡ [] → h.book.links ≡ [] → h.book.nodes ≡ [] → h.items ≡ [] → h.book.class_limit ≡ 64 → h.book.link_limit ≡ 16 → h.book.node_limit ≡ 256 → h.item_limit ≡ 32 → (lexicon h ≡ none) × InOrder h
fresh h cs ls ns is p q r s =
    let (sound, room) = empty_sound h.book cs ls ns in
    let ts = no_texts h ns in
    let long = ap length is in (
      λ i. record { classes = cs i; links = ls i; items = is i; terms = ts i },
      record { sound = sound; room = room; items = λ i j ij l same. omega arith; few = omega arith; class_limit = p; link_limit = q; node_limit = r; item_limit = s },
    )

abbrev buffered : Spelled → ℕ → Result (List ℕ) Fault
buffered t room = cond (leb (length (written t)) room) (Ok (written t)) (Err (at 0 ShortBuffer))

-- what is written into a buffer that keeps its length fits it
module _ (k : Lexicon) (s : List ℕ) (t : Spelled) (read : reading s ≡ Ok t) (j : Lexicon) (places : place_text s k ≡ Ok j) where
  pub spelt : (buffer after : List ℕ) (n : ℕ) → length after ≡ length buffer → n ≡ length (written t) → after ≡ written t ++ drop n buffer → (w : List ℕ) × (spelling k s (length buffer) ≡ Ok w) × (n ≡ length w) × (after ≡ w ++ drop n buffer)
  spelt buffer after n kept long is =
      let a = ap length is ∙ length-append (written t) (drop n buffer) in
      let b = length-drop n buffer in
      let fits : length (written t) ≤ length buffer = omega arith in (
        written t,
        ap (λ r. thus (in_field 3 r) (λ u. thus (place_term u k) (λ _. buffered u (length buffer)))) read
            ∙ ap (λ r. thus r (λ _. buffered t (length buffer))) (sym (ap (λ r. thus (in_field 3 r) (λ u. place_term u k)) read) ∙ places)
            ∙ cond-true (leb (length (written t)) (length buffer)) _ _ (le-leb (length (written t)) (length buffer) fits),
        long,
        is,
      )
