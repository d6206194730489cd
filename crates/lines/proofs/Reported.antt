-- How long the line that tells a fault is. Assumes nothing.
use Rattle.std.proofs.Common.{ℕ, ◌<◌, ◌≤◌, [], ◌∷◌, ◌++◌, length, decimal, arith}
use Rattle.std.proofs.lemmas.Fmt.{length-decimal-le}
use Rattle.std.proofs.lemmas.List.{length-append}
use Rattle.lines.specs.FaultLine.{fault_line}

-- F, four tabs and the end are 6 bytes; 5 digits, 1, 3 and 5 at most stand between
pub length_fault_line : (line field number place : ℕ) → line ≤ 16385 → field ≤ 4 → number ≤ 100 → place < 100000 → length (fault_line line field number place) ≤ 32
length_fault_line line field number place hl hf hn hp =
    let l = length-decimal-le 5 line (omega arith) (omega arith) (omega arith) in
    let f = length-decimal-le 1 field (omega arith) (omega arith) (omega arith) in
    let n = length-decimal-le 3 number (omega arith) (omega arith) (omega arith) in
    let p = length-decimal-le 5 place (omega arith) (omega arith) (omega arith) in
    let a = length-append (decimal place) (10 ∷ []) in
    let b = length-append (decimal number) (9 ∷ (decimal place ++ (10 ∷ []))) in
    let c = length-append (decimal field) (9 ∷ (decimal number ++ (9 ∷ (decimal place ++ (10 ∷ []))))) in
    let d = length-append (decimal line) (9 ∷ (decimal field ++ (9 ∷ (decimal number ++ (9 ∷ (decimal place ++ (10 ∷ []))))))) in
    omega arith
