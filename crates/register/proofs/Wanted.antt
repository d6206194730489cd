-- A report fits the buffer that is wanted for it. Assumes nothing.
use Rattle.std.proofs.Common.{◌≡◌, ℕ, suc, ◌+◌, ◌<◌, ◌≤◌, eqb, leb, List, [], ◌∷◌, ◌++◌, length, Ok, Err, Result, sym, ap, ◌∙◌, ⊎_elim, arith}
use Rattle.std.proofs.lemmas.List.{length-append}
use Rattle.std.proofs.lemmas.List.Splits.{join_with_byte-slice_split}
use Rattle.std.specs.List.{join_with_byte}
use Rattle.std.proofs.lemmas.Bool.{cond_both, leb-true}
use Rattle.lines.proofs.Reported.{length_fault_line}
use Rattle.lines.specs.Pieces.{pieces}
use Rattle.lines.specs.declared.located.Located.{Located}
use Rattle.lines.specs.declared.letters.Stage.{Stage}
use Rattle.lines.specs.declared.letters.Stage.TheVariants.{Start, Lines, Questions}
use Rattle.names.specs.Refusal.{number, place_of, at}
use Rattle.names.specs.declared.refusals.Fault.{Fault}
use Rattle.names.specs.declared.refusals.Refusal.TheVariants.{WrongStage, Unended, FileTooLong}
use Rattle.register.specs.Progress.{Progress, begun, progress_after}
use Rattle.register.specs.Reading.{text_of}
use Rattle.register.specs.Report.{Report, fault_at, ends, copied, at_end, then, report_from, report, wanted}
use Rattle.register.specs.Walk.{told_by, Wanting, Walked}
use Rattle.register.specs.declared.readings.Reading.{Reading}
use Rattle.register.proofs.Faults.{Small, Faulty, small_at, line_faulty}

fault_short : (n m : ℕ) (e : Fault) → n ≤ 16385 → m < 100000 → Small m e → length (fault_at n e) ≤ 32
fault_short n m e hn hm s = length_fault_line n e.field (number e.refusal) (place_of e.refusal) hn s.field s.number (let p = s.place in omega arith)

copied_short : (s : Stage) (line : List ℕ) → length (copied s line) ≤ length line + 1
copied_short Start line = let l = length-append line (10 ∷ []) in omega arith
copied_short Lines line = omega arith
copied_short Questions line = omega arith

end_short : (n : ℕ) (p : Progress) (s : Stage) → n ≤ 16385 → length (at_end n p s).text ≤ 32
end_short n p Start h = fault_short n 0 (at 0 WrongStage) h (omega arith) (small_at 0 0 WrongStage (omega arith) (omega arith))
end_short n p Lines h = omega arith
end_short n p Questions h = omega arith

then_short : (n m k : ℕ) (line : List ℕ) (p : Progress) (more : Progress → Report) (r : Result Progress Fault) → n ≤ 16385 → m < 100000 → Faulty m r → ((q : Progress) → length (more q).text ≤ k + 32) → length (then n line p more r).text ≤ length line + suc k + 32
then_short n m k line p more (Ok q) hn hm f h =
    let l = length-append (copied p.stage line) (more q).text in
    let c = copied_short p.stage line in
    let b = h q in
    omega arith
then_short n m k line p more (Err e) hn hm f h = let b = fault_short n m e hn hm f in omega arith

text_short : (n : ℕ) (ps : List (List ℕ)) (p : Progress) → n + length (join_with_byte 10 ps) ≤ 16385 → length (report_from n ps p).text ≤ length (join_with_byte 10 ps) + 32
unfolding report_from
text_short n [] p h = omega arith
text_short n (line ∷ []) p h =
    cond_both (eqb (length line) 0) (at_end n p p.stage) (ends p (fault_at n (at 0 Unended))) (λ r. length r.text ≤ length line + 32)
    (λ _. let b = end_short n p p.stage (omega arith) in omega arith)
    (λ _. let b = fault_short n 0 (at 0 Unended) (omega arith) (omega arith) (small_at 0 0 Unended (omega arith) (omega arith)) in omega arith)
text_short n (line ∷ next ∷ rest) p h =
    let l = length-append line (10 ∷ join_with_byte 10 (next ∷ rest)) in
    let b = then_short n (length line + 16) (length (join_with_byte 10 (next ∷ rest))) line p (report_from (suc n) (next ∷ rest)) (progress_after line p) (omega arith) (omega arith) (line_faulty (length line + 16) line (omega arith) p) (λ q. text_short (suc n) (next ∷ rest) q (omega arith)) in
    omega arith

pub report_short : (file : List ℕ) → length (report file).text ≤ wanted file
report_short file =
    let whole = ap length (join_with_byte-slice_split 10 file) in
    cond_both (leb (length file) 16384) (report_from 1 (pieces 10 file) begun) (ends begun (fault_at 0 (at 0 FileTooLong))) (λ r. length r.text ≤ wanted file)
    (λ t. let few = leb-true (length file) 16384 t in let b = text_short 1 (pieces 10 file) begun (omega arith) in omega arith)
    (λ f. let b = fault_short 0 0 (at 0 FileTooLong) (omega arith) (omega arith) (small_at 0 0 FileTooLong (omega arith) (omega arith)) in omega arith)

-- a walk that did not want for memory, told in two pieces
module _ (file : List ℕ) (stop : Result (Unit {0}) Located) (after : Reading) (w : Walked (report file) stop after) (enough : Wanting stop → ⊥) (front back : List ℕ) (is_front : front ≡ text_of after) (is-back : back ≡ told_by stop) where
  reported : report file ≡ record { text = front ++ back; tally = after.tally }
  reported =
      ⊎_elim (λ x. absurd (enough x)) (λ e. e) w
      ∙ λ i. record { text = sym is_front i ++ sym is-back i; tally = after.tally }

  text_is : (report file).text ≡ front ++ back
  text_is = ap (λ r. r.text) reported

  pub no_room : (n : ℕ) → n < length front + length back → n < wanted file
  no_room n h =
      let long = ap length text_is ∙ length-append front back in
      let short = report_short file in
      omega arith
