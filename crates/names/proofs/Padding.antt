-- A word copied into the front of sixteen zeros. Assumes nothing.
use Rattle.std.proofs.Common.{◌≡◌, ℕ, ◌-◌, List, ◌++◌, length, take, drop, replicate, sym, ap, ◌∙◌, arith}
use Rattle.std.proofs.lemmas.List.{drop-replicate, take_at}

abbrev pub padded : List ℕ → List ℕ → List ℕ
padded word front = front ++ drop (length word - 0) (replicate 16 0)

pub front_is : (word front : List ℕ) → front ≡ word → take (length word) (padded word front) ≡ word
front_is word front copied = take_at front _ (length word) (ap length copied) ∙ copied

pub rest_is : (word front : List ℕ) → front ≡ word → padded word front ≡ take (length word) (padded word front) ++ replicate (16 - length word) 0
rest_is word front copied =
    let same : length word - 0 ≡ length word = omega arith in
    let zeros : drop (length word - 0) (replicate 16 0) ≡ replicate (16 - length word) 0 = ap (λ n. drop n (replicate 16 0)) same ∙ drop-replicate (length word) 16 0 in
    ap (λ w. front ++ w) zeros ∙ ap (λ w. w ++ replicate (16 - length word) 0) (copied ∙ sym (front_is word front copied))
