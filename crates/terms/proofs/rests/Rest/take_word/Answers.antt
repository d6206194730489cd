use Rattle.std.proofs.Common.{◌≡◌, ℕ, zero, suc, ◌<◌, ◌≤◌, List, [], ◌∷◌, length, get_or, take, drop, sym, ap, ◌∙◌, arith}
use Rattle.std.proofs.lemmas.Bool.{cond-true, cond-false, eq-eqb, ne_eqb}
use Rattle.terms.specs.Word.{word_length}
use Rattle.terms.proofs.rests.Rest.take_word.Goals as goal

-- the first space ends the first word
word_is : (s : List ℕ) (n : ℕ) → n ≤ length s → ((k : ℕ) → k < n → get_or s k 0 ≡ 32 → ⊥) → (n < length s → get_or s n 0 ≡ 32) → n ≡ word_length s
word_is [] n l b f = omega arith
word_is (c ∷ s) zero l b f = sym (cond-true _ _ _ (eq-eqb c 32 (f (omega arith))))
word_is (c ∷ s) (suc n) l b f =
    ap suc (word_is s n (omega arith) (λ k h. b (suc k) (omega arith)) (λ h. f (omega arith))) ∙ sym (cond-false _ _ _ (ne_eqb c 32 (b 0 (omega arith))))

pub returns-clause-word : goal.returns-clause-word
returns-clause-word c =
    let w = c.piece_length.ensures in
    let s = c.args.self.now.bytes.now in
    c.split_at.ensures.front ∙ ap (λ n. take n s) (word_is s c.piece_length.result w.within w.before w.found)

pub returns-clause-behind : goal.returns-clause-behind
returns-clause-behind c =
    let w = c.piece_length.ensures in
    let s = c.args.self.now.bytes.now in
    c.split_at.ensures.back ∙ ap (λ n. drop n s) (word_is s c.piece_length.result w.within w.before w.found)
