-- A buffer that begins with what is expected, as long as what was written, was written that.
use Rattle.std.proofs.Common.{ℕ, List, ◌≡◌, ◌∙◌, sym, ap, length, take, drop}
use Rattle.std.proofs.Math.Seq.{take-append_seam}
use Rattle.cases.specs.Hex.{bytes_of}
use Rattle.register.specs.Proof.{Written}
use Rattle.register.specs.Report.{report}
use Rattle.register.specs.declared.tallies.Proofread.{Proofread}
use Rattle.vectors.specs.Reported.{IsReported}

pub told : (file before after expected text : List ℕ) (p : Proofread) → Written file before p after → p.len ≡ length text → take (length text) after ≡ text → bytes_of expected ≡ text → IsReported file expected
told file before after expected text p w same front decoded =
    let whole = (report file).text in
    let long : length text ≡ length whole = sym same ∙ w.len in
    let seam : take (length whole) after ≡ whole = ap (take (length whole)) w.text ∙ take-append_seam whole (drop p.len before) in
    let is : text ≡ whole = sym front ∙ ap (λ n. take n after) long ∙ seam in
    decoded ∙ is
