-- What a step of the reader answers, and what its builder made. Assumes nothing.
use Rattle.std.specs.Prelude.{◌≡◌, ℕ, List, Ok, Err, Result, MatchResult}
use Rattle.terms.specs.Built.{Built}
use Rattle.terms.specs.Parse.{Parsed}
use Rattle.terms.specs.Term.{Spelled}
use Rattle.terms.specs.declared.nodes.Node.{Node}
use Rattle.terms.specs.declared.nodes.Sort.{Sort}
use Rattle.terms.specs.declared.rests.Rest.{Rest}
use Rattle.names.specs.declared.refusals.Refusal.{Refusal}

-- `parsing` is of a text's length and the bytes that are left of it, `k` is what was left before, and `k'` behind the term.
module _ {S : Type 0} (labels : S → Sort → List ℕ → ℕ → S → Type 0) (makes : S → Node → ℕ → S → Type 0) (parsing : ℕ → List ℕ → Parsed) where
  -- the parsed term by the number that it was built by, or the same refusal
  abbrev pub Outcome : Rest → S → Result ℕ Refusal → Rest → S → Type 0
  Outcome k s r k' s' =
      MatchResult r (λ i. (t : Spelled) × (parsing k.total k.bytes.now ≡ Ok (t, k'.bytes.now)) × (k'.total ≡ k.total) × Built labels makes t s i s') (λ e. parsing k.total k.bytes.now ≡ Err e)

  -- likewise by its outermost node, which once it is made is the term
  abbrev pub Outermost : Rest → S → Result Node Refusal → Rest → S → Type 0
  Outermost k s r k' s' =
      MatchResult r (λ n. (t : Spelled) × (parsing k.total k.bytes.now ≡ Ok (t, k'.bytes.now)) × (k'.total ≡ k.total) × ((i : ℕ) (z : S) → makes s' n i z → Built labels makes t s i z)) (λ e. parsing k.total k.bytes.now ≡ Err e)
