-- The vocabulary grows, and the rest of a sheet stays as it was. Assumes nothing.
use Rattle.std.proofs.Common.{◌≡◌, ℕ, ◌<◌, ◌≤◌, Bool, true, ltb, List, [], ◌∷◌, map, length, Some, None, Ok, Err, Option, Result, sym, refl, ap, ◌∙◌, subst, arith}
use Rattle.std.proofs.lemmas.Bool.{and_parts, ltb-true}
use Rattle.std.proofs.lemmas.Bool.Decides.{nat_tests}
use Rattle.std.proofs.lemmas.List.Sums.{AllPass-from_list_all, list_all-from_AllPass}
use Rattle.std.specs.List.{list_all}
use Rattle.std.specs.Option.{option_map}
use Rattle.std.specs.Result.{IsErrAnd}
use Rattle.glossary.proofs.Circles.{bounded_more, follows_same}
use Rattle.glossary.specs.Refers.{mentioned}
use Rattle.names.specs.declared.refusals.Fault.{Fault}
use Rattle.sheet.specs.Content.{Content, stated}
use Rattle.sheet.specs.Fair.{Fair, within}
use Rattle.sheet.specs.Outcome.{mentions, Told}
use Rattle.sheet.specs.Store.{Store, asserted, content_of}
use Rattle.sheet.specs.declared.line.Line.{Line}
use Rattle.sheet.specs.declared.line.Line.TheVariants.{Statement, Tie}
use Rattle.tables.proofs.Numbers.{front_long}
use Rattle.tables.proofs.Step.{tree_stays}
use Rattle.tables.specs.Entry.{Front}
use Rattle.terms.specs.Nodes.{tree}
use Rattle.terms.specs.declared.nodes.Node.{Node}
use Rattle.vocabulary.specs.Held.{Held, InOrder, Grew, lexicon}

-- the store with these tables for its vocabulary
abbrev pub over : Held → Store → Store
over h s = record { held = h; gloss = s.gloss; refers = s.refers; lines = s.lines }

-- a refusal that leaves the vocabulary as it was leaves the tables so

pub refused_fair : (s : Store) (h : Held) → Fair s → h ≡ s.held → Fair (over h s)
refused_fair s h fair same = subst (λ k. Fair (over k s)) (sym same) fair

pub refused_told : (s : Store) (h : Held) (o : Result Content Fault) (r : Result (Unit {0}) Fault) (e : Fault) → IsErrAnd r (λ d. d ≡ e) → o ≡ Err e → h ≡ s.held → Told o r (content_of s) (content_of (over h s))
refused_told s h o (Ok x) e told refused same = absurd told
refused_told s h o (Err d) e told refused same = (refused ∙ ap (λ x. Err x) (sym told), ap (λ k. content_of (over k s)) same)

within_more : (l i n l' i' n' : ℕ) (line : Line) → l ≤ l' → i ≤ i' → n ≤ n' → within l i n line ≡ true → within l' i' n' line ≡ true
within_more l i n l' i' n' (Statement a b) p q r t = grind (arith, nat_tests)
within_more l i n l' i' n' (Tie k a b) p q r t = grind (arith, nat_tests)

all_more : (p q : Line → Bool) → ((line : Line) → p line ≡ true → q line ≡ true) → (ls : List Line) → list_all p ls ≡ true → list_all q ls ≡ true
all_more p q f ls t = list_all-from_AllPass q ls (λ k d l. f _ (AllPass-from_list_all p ls t k d l))

-- the trees of glosses and lines stay, as nodes are put behind

pub gloss_stays : (ns ms : List Node) → Front ns ms → (o : Option ℕ) → ((g : ℕ) → o ≡ Some g → g < length ns) → option_map (tree ms) o ≡ option_map (tree ns) o
gloss_stays ns ms f None low = refl
gloss_stays ns ms f (Some g) low = ap (λ u. Some u) (tree_stays ns ms g f (low g refl))

line_stays : (ns ms : List Node) → Front ns ms → (l i : ℕ) (line : Line) → within l i (length ns) line ≡ true → asserted ms line ≡ asserted ns line
line_stays ns ms f l i (Statement a b) t =
    let x = and_parts (ltb a i) (ltb b (length ns)) t in
    ap (stated a) (tree_stays ns ms b f (ltb-true b (length ns) x.1))
line_stays ns ms f l i (Tie k a b) t = refl

lines_stay : (ns ms : List Node) → Front ns ms → (l i : ℕ) (ls : List Line) → list_all (within l i (length ns)) ls ≡ true → map (asserted ms) ls ≡ map (asserted ns) ls
lines_stay ns ms f l i [] t = refl
lines_stay ns ms f l i (line ∷ ls) t =
    let x = and_parts (within l i (length ns) line) (list_all (within l i (length ns)) ls) t in
    let here = line_stays ns ms f l i line x.0 in
    let rest = lines_stay ns ms f l i ls x.1 in
    λ j. here j ∷ rest j

module _ (s : Store) (h : Held) (fair : Fair s) (order : InOrder h) (grew : Grew s.held h) where
  glosses_stay : (c : ℕ) → option_map (tree h.book.nodes) (s.gloss c) ≡ option_map (tree s.held.book.nodes) (s.gloss c)
  glosses_stay c = gloss_stays s.held.book.nodes h.book.nodes grew.nodes (s.gloss c) (fair.glosses c)

  pub kept_fair : Fair (over h s)
  kept_fair =
      let classes = front_long s.held.book.classes h.book.classes grew.classes in
      let links = front_long s.held.book.links h.book.links grew.links in
      let items = front_long s.held.items h.items grew.items in
      let nodes = front_long s.held.book.nodes h.book.nodes grew.nodes in
      record {
        held = order;
        glosses = λ c g e. let l = fair.glosses c g e in omega arith;
        plain = λ c l. fair.plain c (omega arith);
        follows = follows_same (mentions (content_of s)) (mentions (content_of (over h s))) s.refers s.refers fair.follows (λ c. ap mentioned (glosses_stay c)) (λ c d. refl);
        loopless = fair.loopless;
        bounded = bounded_more (length h.book.classes) (length s.held.book.classes) s.refers fair.bounded classes;
        lines = all_more _ _ (λ line t. within_more _ _ _ _ _ _ line links items nodes t) s.lines fair.lines;
      }

  pub kept_content : content_of (over h s) ≡ record { words = lexicon h; gloss = (content_of s).gloss; lines = (content_of s).lines }
  kept_content =
      let ls = lines_stay s.held.book.nodes h.book.nodes grew.nodes (length s.held.book.links) (length s.held.items) s.lines fair.lines in
      λ i. record { words = lexicon h; gloss = λ c. glosses_stay c i; lines = ls i }
