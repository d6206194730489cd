-- A new sheet is in order, and is empty. Assumes nothing.
use Rattle.std.proofs.Common.{◌≡◌, ℕ, false, ◌||◌, eqb, [], map, length, is_some, None, sym, ap, ◌∙◌}
use Rattle.std.specs.Option.{option_map}
use Rattle.std.specs.List.{list_all, list_any}
use Rattle.glossary.specs.Refers.{mentioned}
use Rattle.sheet.specs.Content.{empty}
use Rattle.sheet.specs.Fair.{Fair, within}
use Rattle.sheet.specs.Store.{Store, asserted, content_of}
use Rattle.terms.specs.Nodes.{tree}
use Rattle.vocabulary.specs.Held.{InOrder, lexicon}
use Rattle.vocabulary.specs.Lexicon.{none}

pub fresh : (s : Store) → lexicon s.held ≡ none → InOrder s.held → ((c : ℕ) → s.gloss c ≡ None) → ((c d : ℕ) → s.refers c d ≡ false) → s.lines ≡ [] → Fair s × (content_of s ≡ empty)
fresh s w o g r l = (
  record {
    held = o;
    glosses = λ c k e. let n = g c in absurd (cc);
    plain = λ c h. ap is_some (g c);
    follows = λ c d. r c d ∙ sym (ap (λ x. list_any (λ e. eqb e d || s.refers e d) (mentioned (option_map (tree s.held.book.nodes) x))) (g c));
    loopless = λ c. r c c;
    bounded = λ c d h. r c d;
    lines = ap (list_all (within (length s.held.book.links) (length s.held.items) (length s.held.book.nodes))) l;
  },
  λ i. record { words = w i; gloss = λ c. ap (option_map (tree s.held.book.nodes)) (g c) i; lines = ap (map (asserted s.held.book.nodes)) l i },
)
