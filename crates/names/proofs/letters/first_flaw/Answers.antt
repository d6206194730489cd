use Rattle.std.proofs.Common.{◌≡◌, ℕ, ◌+◌, ◌<◌, Some, None, cond, ltb, length, sym, ap, ◌∙◌, rules, arith}
use Rattle.std.proofs.lemmas.Iterator.{YieldsList-from_slice}
use Rattle.std.proofs.lemmas.Iterator.Consumers.{YieldsList-from_enumerate}
use Rattle.std.proofs.lemmas.Iterator.Search.{position_from_yields_List}
use Rattle.std.proofs.lemmas.List.FromFn.{length-enumerate_from}
use Rattle.std.specs.List.{enumerate_from}
use Rattle.names.proofs.First.{stops, first, flaw_first}
use Rattle.names.proofs.letters.first_flaw.Goals as goal

pub returns : goal.returns
returns c =
    let w = c.args.word.now in
    let some : 0 < 0 + length w = search rules in
    let bytes : c.enumerate.result.iter.rest.now ≡ w = ap (λ s. s.rest.now) c.enumerate.ensures.source ∙ c.iter.ensures.rest in
    let found : c.position.result ≡ cond (ltb (first 0 w) (length (enumerate_from 0 w))) (Some (first 0 w)) None = position_from_yields_List stops _ _ c.position.result c.position.ensures.ran (YieldsList-from_enumerate (YieldsList-from_slice _ bytes) c.enumerate.ensures.count) (λ x b q k. search rules) in
    let long : length (enumerate_from 0 w) ≡ length w = length-enumerate_from 0 w in
    let zero_on : 0 + first 0 w ≡ first 0 w = omega arith in
    found ∙ ap (λ n. cond (ltb (first 0 w) n) (Some (first 0 w)) None) long ∙ ap (λ (k : ℕ). cond (ltb (first 0 w) (length w)) (Some k) None) (sym zero_on) ∙ sym (flaw_first 0 w some)
