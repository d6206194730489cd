-- Reading line by line comes to the report. Assumes nothing.
use Rattle.std.proofs.Common.{◌≡◌, ℕ, suc, ◌+◌, ◌<◌, Bor, cond, eqb, List, [], ◌∷◌, ◌++◌, length, get_or, Some, None, Ok, Err, Option, Result, sym, refl, ap, ◌∙◌, subst, inl, inr, ⊎_elim, append_assoc, add-one, arith}
use Rattle.std.proofs.lemmas.Bool.{cond_both, cond-false, ne_eqb}
use Rattle.std.proofs.lemmas.List.{length-append}
use Rattle.std.specs.Result.{MatchResult, IsErrAnd}
use Rattle.lines.proofs.Cuts.{pieces_some}
use Rattle.lines.specs.Pieces.{pieces}
use Rattle.lines.specs.Stages.{letter_of, followed, width}
use Rattle.lines.specs.declared.letters.Letter.{Letter}
use Rattle.lines.specs.declared.letters.Letter.TheVariants.{Heading, Gloss, Statement, Tie, Question}
use Rattle.lines.specs.declared.letters.Stage.{Stage}
use Rattle.lines.specs.declared.letters.Stage.TheVariants.{Start, Lines, Questions}
use Rattle.lines.specs.declared.located.Located.{Located}
use Rattle.names.specs.declared.refusals.Fault.{Fault}
use Rattle.names.specs.declared.refusals.Refusal.{Refusal}
use Rattle.names.specs.declared.refusals.Refusal.TheVariants.{WrongStage, Unended}
use Rattle.register.specs.Progress.{Progress, counted, taken, at_stage, of_letter, progress_after}
use Rattle.register.specs.Reading.{progress_of, text_of, Few, Kept, TakenOr}
use Rattle.register.specs.Report.{Report, fault_at, ends, copied, at_end, before, then, report_from}
use Rattle.register.specs.Walk.{Walked}
use Rattle.register.specs.declared.readings.Reading.{Reading}
use Rattle.register.specs.declared.tallies.Tally.{Tally}
use Rattle.sheet.specs.Content.{Content}
use Rattle.names.specs.Refusal.{at}
use Rattle.vocabulary.specs.Placing.{thus}

-- the report's laws: one line that ends, and what stands behind the last
more_lines : (n : ℕ) (line : List ℕ) (ps : List (List ℕ)) (p : Progress) → 0 < length ps → report_from n (line ∷ ps) p ≡ then n line p (report_from (suc n) ps) (progress_after line p)
unfolding report_from
more_lines n line [] p some = absurd (omega arith)
more_lines n line (next ∷ rest) p some = refl

last_line : (n : ℕ) (line : List ℕ) (p : Progress) → report_from n (line ∷ []) p ≡ cond (eqb (length line) 0) (at_end n p p.stage) (ends p (fault_at n (at 0 Unended)))
unfolding report_from
last_line n line p = refl

before_before : (a b : List ℕ) (r : Report) → before a (before b r) ≡ before (a ++ b) r
before_before a b r = λ i. record { text = sym (append_assoc a b r.text) i; tally = r.tally }

-- a line of `rest` that ends, with `behind` behind it
module _ (n : ℕ) (rest line behind : List ℕ) (p : Progress) (cut : pieces 10 rest ≡ line ∷ pieces 10 behind) where
  first_line : report_from n (pieces 10 rest) p ≡ then n line p (report_from (suc n) (pieces 10 behind)) (progress_after line p)
  first_line = ap (λ ps. report_from n ps p) cut ∙ more_lines n line (pieces 10 behind) p (pieces_some 10 behind)

  step_taken : (q : Progress) (text next : List ℕ) → progress_after line p ≡ Ok q → next ≡ text ++ copied p.stage line → before text (report_from n (pieces 10 rest) p) ≡ before next (report_from (n + 1) (pieces 10 behind) q)
  step_taken q text next t e =
      ap (before text) (first_line ∙ ap (then n line p (report_from (suc n) (pieces 10 behind))) t)
      ∙ before_before text (copied p.stage line) (report_from (suc n) (pieces 10 behind) q)
      ∙ ap (λ x. before x (report_from (suc n) (pieces 10 behind) q)) (sym e)
      ∙ ap (λ m. before next (report_from m (pieces 10 behind) q)) (sym (add-one n))

  step_refused : (text next : List ℕ) (t : Tally) (e : Fault) → progress_after line p ≡ Err e → next ≡ text → t ≡ p.tally → before text (report_from n (pieces 10 rest) p) ≡ record { text = next ++ fault_at n e; tally = t }
  step_refused text next t e r et tt' =
      ap (before text) (first_line ∙ ap (then n line p (report_from (suc n) (pieces 10 behind))) r)
      ∙ λ i. record { text = sym et i ++ fault_at n e; tally = sym tt' i }

-- what stands behind the last end
end_told : (n : ℕ) (p : Progress) (s : Stage) → (s ≡ Start → ⊥) → at_end n p s ≡ ends p []
end_told n p Start h = absurd (h refl)
end_told n p Lines h = refl
end_told n p Questions h = refl

-- a line taken counts one more at most, and is not the start

abbrev Grows : ℕ → Result Progress Fault → Type 0
Grows n (Ok q) = Few (suc n) q.tally × (q.stage ≡ Start → ⊥)
Grows n (Err e) = Unit {0}

few_counted : (n : ℕ) (l : Letter) (t : Tally) → Few n t → Few (suc n) (counted l t)
few_counted n Heading t f = record { glosses = omega arith; statements = omega arith; ties = omega arith; questions = omega arith }
few_counted n Gloss t f = record { glosses = omega arith; statements = omega arith; ties = omega arith; questions = omega arith }
few_counted n Statement t f = record { glosses = omega arith; statements = omega arith; ties = omega arith; questions = omega arith }
few_counted n Tie t f = record { glosses = omega arith; statements = omega arith; ties = omega arith; questions = omega arith }
few_counted n Question t f = record { glosses = omega arith; statements = omega arith; ties = omega arith; questions = omega arith }

under_way : (s : Stage) (l : Letter) (n : Stage) → followed s l ≡ Some n → n ≡ Start → ⊥
under_way Start Heading n f e = cc
under_way Start Gloss n f e = cc
under_way Start Statement n f e = cc
under_way Start Tie n f e = cc
under_way Start Question n f e = cc
under_way Lines Heading n f e = cc
under_way Lines Gloss n f e = cc
under_way Lines Statement n f e = cc
under_way Lines Tie n f e = cc
under_way Lines Question n f e = cc
under_way Questions Heading n f e = cc
under_way Questions Gloss n f e = cc
under_way Questions Statement n f e = cc
under_way Questions Tie n f e = cc
under_way Questions Question n f e = cc

module _ (n : ℕ) (line : List ℕ) (p : Progress) (few : Few n p.tally) where
  thus_grows : (l : Letter) (s : Stage) (r : Result Content Fault) → (s ≡ Start → ⊥) → Grows n (thus r (λ k. Ok (record { stage = s; content = k; tally = counted l p.tally })))
  thus_grows l s (Ok k) h = (few_counted n l p.tally few, h)
  thus_grows l s (Err e) h = tt

  stage_grows : (o : Option Stage) (l : Letter) → ((s : Stage) → o ≡ Some s → s ≡ Start → ⊥) → Grows n (at_stage o l line p)
  stage_grows None l h = tt
  stage_grows (Some s) l h =
      cond_both (eqb (length (pieces 9 line)) (width l)) _ _ (Grows n) (λ _. thus_grows l s (taken l line p.content) (h s refl)) (λ _. tt)

  letter_grows : (o : Option Letter) → Grows n (of_letter o line p)
  letter_grows None = tt
  letter_grows (Some l) = stage_grows (followed p.stage l) l (under_way p.stage l)

  grows : (q : Progress) → progress_after line p ≡ Ok q → Few (suc n) q.tally × (q.stage ≡ Start → ⊥)
  grows q t = subst (Grows n) t (letter_grows (letter_of (get_or (pieces 9 line) 0 [])))

-- the next line and what stands behind it, or the refusal of one that does not end
abbrev pub Cut : List ℕ → List ℕ → Result (Bor (List ℕ)) Refusal → Type 0
Cut rest behind line =
    MatchResult line (λ w. (pieces 10 rest ≡ w.now ∷ pieces 10 behind) × (rest ≡ w.now ++ 10 ∷ behind))
    (λ f. (f ≡ Unended) × (pieces 10 rest ≡ rest ∷ []) × (0 < length rest) × (behind ≡ []))

-- what the walk keeps
pub record Next (whole : Report) (n : ℕ) (rest behind : List ℕ) (after : Reading) : Type 0 where
  pub so_far : whole ≡ before (text_of after) (report_from n (pieces 10 behind) (progress_of after))
  pub few : Few n after.tally
  pub under_way : after.stage ≡ Start → ⊥
  pub shorter : length behind < length rest

-- how an answer is told, where the refusal is mapped as P says
module _ (answer : Result (Unit {0}) Fault) (told : Result (Unit {0}) Located) (P : Fault → Located → Type 0) where
  pub told_err : MatchResult answer (λ u. told ≡ Ok u) (λ e. IsErrAnd told (P e)) → (l : Located) → told ≡ Err l → (e : Fault) × (answer ≡ Err e) × P e l
  told_err m l is =
      elim answer as (λ r. MatchResult r (λ u. told ≡ Ok u) (λ e. IsErrAnd told (P e)) → (e : Fault) × (r ≡ Err e) × P e l) [
        | Ok u ↦ λ k. cc
        | Err e ↦ λ k. (e, refl, subst (λ t. IsErrAnd t (P e)) is k)
      ] m

  pub told_ok : MatchResult answer (λ u. told ≡ Ok u) (λ e. IsErrAnd told (P e)) → told ≡ Ok tt → answer ≡ Ok tt
  told_ok m is =
      elim answer as (λ r. MatchResult r (λ u. told ≡ Ok u) (λ e. IsErrAnd told (P e)) → r ≡ Ok tt) [
        | Ok u ↦ λ k. refl
        | Err e ↦ λ k. absurd (subst (λ t. IsErrAnd t (P e)) is k)
      ] m

-- the walk: `whole` is to be reported, and `r` has been read so far
module _ (whole : Report) (n : ℕ) (rest : List ℕ) (r : Reading) (so_far : whole ≡ before (text_of r) (report_from n (pieces 10 rest) (progress_of r))) where
  module _ (line behind : List ℕ) (after : Reading) (cut : pieces 10 rest ≡ line ∷ pieces 10 behind) where
    walk_on : progress_after line (progress_of r) ≡ Ok (progress_of after) → text_of after ≡ text_of r ++ copied r.stage line → whole ≡ before (text_of after) (report_from (n + 1) (pieces 10 behind) (progress_of after))
    walk_on t e = so_far ∙ step_taken n rest line behind (progress_of r) cut (progress_of after) (text_of r) (text_of after) t e

    walk_stops : (e : Fault) → Kept e (progress_after line (progress_of r) ≡ Err e) r after → Walked whole (Err (record { line = n; fault = e })) after
    walk_stops e k =
        ⊎_elim inl (λ h. inr (so_far ∙ step_refused n rest line behind (progress_of r) cut (text_of r) (text_of after) after.tally e h.0 h.2 h.1)) k

  walk_unended : pieces 10 rest ≡ rest ∷ [] → 0 < length rest → Walked whole (Err (record { line = n; fault = at 0 Unended })) r
  walk_unended cut some =
      inr (so_far ∙ ap (before (text_of r)) (ap (λ ps. report_from n ps (progress_of r)) cut ∙ last_line n rest (progress_of r) ∙ cond-false _ _ _ (ne_eqb (length rest) 0 (λ e. omega arith))))

  -- one turn: what was read, and how it was answered
  module _ (few : Few n r.tally) (behind : List ℕ) (after : Reading) where
    pub turn_refused : (line : Result (Bor (List ℕ)) Refusal) (answer : Result (Unit {0}) Fault) → Cut rest behind line → TakenOr line answer r after → (e : Fault) → answer ≡ Err e → Walked whole (Err (record { line = n; fault = e })) after
    turn_refused (Ok w) (Ok u) cut t e is = cc
    turn_refused (Ok w) (Err f) cut t e is = let same : f ≡ e = cc in rw (← same) (walk_stops w.now behind after cut.0 f t)
    turn_refused (Err f) answer cut t e is = let same : e ≡ at 0 Unended = cc in rw (same, t.1) (walk_unended cut.1 cut.2)

    pub turn_taken : (line : Result (Bor (List ℕ)) Refusal) (answer : Result (Unit {0}) Fault) → Cut rest behind line → TakenOr line answer r after → answer ≡ Ok tt → Next whole (n + 1) rest behind after
    turn_taken (Ok w) (Ok u) cut t is =
        let more = grows n w.now (progress_of r) few (progress_of after) t.0 in
        record {
          so_far = walk_on w.now behind after cut.0 t.0 t.1;
          few = rw add-one more.0;
          under_way = more.1;
          shorter = omega (arith, ap length cut.1, length-append w.now (10 ∷ behind));
        }
    turn_taken (Ok w) (Err f) cut t is = cc
    turn_taken (Err f) answer cut t is = cc

  module _ (none : rest ≡ []) where
    at_the_end : before (text_of r) (report_from n (pieces 10 rest) (progress_of r)) ≡ before (text_of r) (at_end n (progress_of r) r.stage)
    at_the_end = ap (before (text_of r)) (ap (λ s. report_from n (pieces 10 s) (progress_of r)) none ∙ last_line n [] (progress_of r))

    pub walk_ends : (r.stage ≡ Start → ⊥) → Walked whole (Ok tt) r
    walk_ends h = inr (so_far ∙ at_the_end ∙ ap (before (text_of r)) (end_told n (progress_of r) r.stage h))

    pub walk_fails : n ≡ 1 → r.stage ≡ Start → Walked whole (Err (record { line = 1; fault = at 0 WrongStage })) r
    walk_fails one start = inr (so_far ∙ at_the_end ∙ ap (λ s. before (text_of r) (at_end n (progress_of r) s)) start ∙ ap (λ m. record { text = text_of r ++ fault_at m (at 0 WrongStage); tally = r.tally }) one)
