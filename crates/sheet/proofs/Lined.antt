-- One line more, and what that makes of a sheet. Assumes nothing.
use Rattle.std.proofs.Common.{◌≡◌, ◌+◌, ◌-◌, true, cond, List, [], ◌∷◌, ◌++◌, map, length, Ok, Err, Result, sym, refl, ap, ◌∙◌, arith}
use Rattle.std.proofs.lemmas.Bool.{and_from}
use Rattle.std.proofs.lemmas.List.{map_push}
use Rattle.std.proofs.lemmas.List.Folds.{list_all-append}
use Rattle.std.proofs.lemmas.List.Sums.{sum_by-cons}
use Rattle.std.specs.List.{list_all}
use Rattle.std.specs.Result.{IsErrAnd}
use Rattle.names.specs.declared.refusals.Fault.{Fault}
use Rattle.sheet.proofs.Kept.{over, kept_fair, kept_content, refused_told}
use Rattle.sheet.specs.Content.{Content, with_line, statements, ties}
use Rattle.sheet.specs.Counts.{is_statement, statements_in}
use Rattle.sheet.specs.Fair.{Fair, within}
use Rattle.sheet.specs.Outcome.{Told}
use Rattle.sheet.specs.Store.{Store, asserted, content_of}
use Rattle.sheet.specs.declared.line.Line.{Line}
use Rattle.sheet.specs.declared.line.Line.TheVariants.{Statement, Tie}
use Rattle.terms.specs.declared.nodes.Node.{Node}
use Rattle.vocabulary.specs.Held.{Held, InOrder, Grew, lexicon}
use Rattle.vocabulary.specs.Placing.{thus}

-- the tables with a vocabulary that grew and one line more
abbrev lined : Held → List Line → Store → Store
lined h ls s = record { held = h; gloss = s.gloss; refers = s.refers; lines = ls }

-- The vocabulary came to o, with y, for which F stands as the content, and the line for it was put behind the others.
module _ (s : Store) (h : Held) (fair : Fair s) (order : InOrder h) (grew : Grew s.held h) (line : Line) (low : within (length h.book.links) (length h.items) (length h.book.nodes) line ≡ true) (ls : List Line) (more : ls ≡ s.lines ++ line ∷ []) where
  pub line_fair : Fair (lined h ls s)
  line_fair =
      let old = kept_fair s h fair order grew in
      let test = within (length h.book.links) (length h.items) (length h.book.nodes) in
      record {
        held = old.held;
        glosses = old.glosses;
        plain = old.plain;
        follows = old.follows;
        loopless = old.loopless;
        bounded = old.bounded;
        lines = ap (list_all test) more ∙ list_all-append test s.lines (line ∷ []) ∙ and_from (list_all test s.lines) (list_all test (line ∷ [])) old.lines (and_from (test line) true low refl);
      }

  line_content : content_of (lined h ls s) ≡ with_line (lexicon h) (asserted h.book.nodes line) (content_of s)
  line_content =
      let lines = ap (map (asserted h.book.nodes)) more ∙ map_push (asserted h.book.nodes) s.lines line in
      (λ i. record { words = lexicon h; gloss = (content_of (over h s)).gloss; lines = lines i })
      ∙ ap (with_line (lexicon h) (asserted h.book.nodes line)) (kept_content s h fair order grew)

  pub line_told : {Y : Type 0} (o : Result Y Fault) (F : Y → Content) (y : Y) → o ≡ Ok y → F y ≡ with_line (lexicon h) (asserted h.book.nodes line) (content_of s) → thus o (λ p. Ok (F p)) ≡ Ok (content_of (lined h ls s))
  line_told o F y placed is = ap (λ r. thus r (λ p. Ok (F p))) placed ∙ ap (λ k. Ok k) (is ∙ sym line_content)

-- a refusal is told as it came
pub line_refused : {Y : Type 0} (s : Store) (h : Held) (o : Result Y Fault) (F : Y → Content) (r : Result (Unit {0}) Fault) (e : Fault) → IsErrAnd r (λ d. d ≡ e) → o ≡ Err e → h ≡ s.held → Told (thus o (λ p. Ok (F p))) r (content_of s) (content_of (over h s))
line_refused s h o F r e told refused same = refused_told s h (thus o (λ p. Ok (F p))) r e told (ap (λ r. thus r (λ p. Ok (F p))) refused) same

-- how many lines of each kind

counted : (line : Line) (ls : List Line) → statements_in (line ∷ ls) ≡ cond (is_statement line) 1 0 + statements_in ls
counted = sum_by-cons (λ line. cond (is_statement line) 1 0)

pub statements_are : (ns : List Node) (ls : List Line) → statements (map (asserted ns) ls) ≡ statements_in ls
statements_are ns [] = refl
statements_are ns (Statement a t ∷ ls) = omega (arith, statements_are ns ls, counted (Statement a t) ls)
statements_are ns (Tie l a b ∷ ls) = omega (arith, statements_are ns ls, counted (Tie l a b) ls)

all_are : (ns : List Node) (ls : List Line) → ties (map (asserted ns) ls) + statements_in ls ≡ length ls
all_are ns [] = refl
all_are ns (Statement a t ∷ ls) = omega (arith, all_are ns ls, counted (Statement a t) ls)
all_are ns (Tie l a b ∷ ls) = omega (arith, all_are ns ls, counted (Tie l a b) ls)

pub ties_are : (ns : List Node) (ls : List Line) → ties (map (asserted ns) ls) ≡ length ls - statements_in ls
ties_are ns ls = let h = all_are ns ls in omega arith
