-- How far from the start the place of a refusal can be. Assumes nothing.
use Rattle.std.proofs.Common.{◌≡◌, ℕ, zero, suc, ◌+◌, ◌<◌, ◌≤◌, true, eqb, List, [], ◌∷◌, length, Some, None, Ok, Err, Option, Result, arith}
use Rattle.std.proofs.lemmas.Bool.{cond_both}
use Rattle.std.proofs.lemmas.Bool.Decides.{nat_tests}
use Rattle.names.specs.Name.{fits, flaw}
use Rattle.names.specs.Refusal.{place_of}
use Rattle.names.specs.declared.refusals.Refusal.{Refusal}
use Rattle.terms.specs.Forms.{joins, quantifies, modalizes}
use Rattle.terms.specs.Parse.{after, Parsed, gap, named, name_at, part, one_part, two_parts, linked, operated, parts, parse, place, ended, begun, reading}
use Rattle.terms.specs.Term.{Spelled, class, neg}
use Rattle.terms.specs.Word.{Word, operator, reader, name, first_word, after_word, meant}
use Rattle.terms.specs.declared.words.Operator.{Operator}
use Rattle.terms.specs.declared.words.Operator.TheVariants.{Top, Bottom, Not, Join as Joining, Quantifier as Quantifying}

-- a flaw is at the 17th byte at the latest
abbrev pub Early : Option ℕ → Type 0
Early None = Unit {0}
Early (Some i) = i ≤ 16

fits_below : (i b : ℕ) → fits i b ≡ true → i < 16
fits_below i b f = grind (arith, nat_tests)

flaw_from : (i : ℕ) (w : List ℕ) → i ≤ 16 → Early (flaw i w)
flaw_from i [] h = cond_both (eqb i 0) (Some 0) None Early (λ _. omega arith) (λ _. tt)
flaw_from i (b ∷ bs) h = cond_both (fits i b) (flaw (suc i) bs) (Some i) Early (λ f. flaw_from (suc i) bs (let l = fits_below i b f in omega arith)) (λ _. h)

pub flaw_early : (w : List ℕ) → Early (flaw 0 w)
flaw_early w = flaw_from 0 w (omega arith)

-- a refusal's place is at most n
abbrev pub Near : {X : Type 0} → ℕ → Result X Refusal → Type 0
Near n (Ok x) = Unit {0}
Near n (Err e) = place_of e ≤ n

pub near_after : {X Y : Type 0} (n : ℕ) (r : Result X Refusal) (f : X → Result Y Refusal) → Near n r → ((x : X) → Near n (f x)) → Near n (after r f)
near_after n (Ok x) f h g = g x
near_after n (Err e) f h g = h

pub near_named : (n p : ℕ) (w : List ℕ) (r : Option ℕ) → Early r → p + 16 ≤ n → Near n (named p w r)
near_named n p w None h l = tt
near_named n p w (Some i) h l = omega arith

pub near_more : {X : Type 0} (m n : ℕ) (r : Result X Refusal) → m ≤ n → Near m r → Near n r
near_more m n (Ok x) l h = tt
near_more m n (Err e) l h = omega arith

module _ (total : ℕ) where
  near_gap : (behind : List ℕ) → Near (total + 16) (gap total behind)
  near_gap [] = omega arith
  near_gap (s ∷ []) = omega arith
  near_gap (s ∷ b ∷ bs) = cond_both (eqb b 32) _ (Ok (b ∷ bs)) (Near (total + 16)) (λ _. omega arith) (λ _. tt)

  near_name : (rest w : List ℕ) → Near (total + 16) (name_at total rest w)
  near_name rest w = near_named (total + 16) (place total rest) w (flaw 0 w) (flaw_early w) (omega arith)

  near_ended : (t : Spelled) (behind : List ℕ) → Near (total + 16) (ended total t behind)
  near_ended t [] = tt
  near_ended t (s ∷ []) = omega arith
  near_ended t (s ∷ b ∷ bs) = cond_both (eqb b 32) _ _ (Near {X = Spelled} (total + 16)) (λ _. omega arith) (λ _. omega arith)

  module _ (sub : List ℕ → Parsed) (near : (rest : List ℕ) → Near (total + 16) (sub rest)) where
    near_part : (behind : List ℕ) → Near (total + 16) (part total sub behind)
    near_part behind = near_after (total + 16) (gap total behind) sub (near_gap behind) near

    near_one : (behind : List ℕ) (make : Spelled → Spelled) → Near (total + 16) (one_part total sub behind make)
    near_one behind make = near_after (total + 16) (part total sub behind) _ (near_part behind) (λ _. tt)

    near_two : (behind : List ℕ) (make : Spelled → Spelled → Spelled) → Near (total + 16) (two_parts total sub behind make)
    near_two behind make = near_after (total + 16) (part total sub behind) _ (near_part behind) (λ p. near_one p.1 (make p.0))

    near_linked : (behind : List ℕ) (make : List ℕ → Spelled → Spelled) → Near (total + 16) (linked total sub behind make)
    near_linked behind make =
        near_after (total + 16) (gap total behind) _ (near_gap behind) (λ k.
        near_after (total + 16) (name_at total k (first_word k)) _ (near_name k (first_word k)) (λ r. near_one (after_word k) (make r)))

    near_operated : (behind : List ℕ) (op : Operator) → Near (total + 16) (operated total sub behind op)
    near_operated behind Top = tt
    near_operated behind Bottom = tt
    near_operated behind Not = near_one behind neg
    near_operated behind (Joining j) = near_two behind (joins j)
    near_operated behind (Quantifying q) = near_linked behind (quantifies q)

    near_parts : (rest : List ℕ) (w : Option Word) → Near (total + 16) (parts total sub rest w)
    near_parts rest None = omega arith
    near_parts rest (Some (name w)) = near_after (total + 16) (name_at total rest w) (λ n. Ok (class n, after_word rest)) (near_name rest w) (λ _. tt)
    near_parts rest (Some (operator op)) = near_operated (after_word rest) op
    near_parts rest (Some (reader m i)) = near_one (after_word rest) (modalizes m i)

  near_parse : (room : ℕ) (rest : List ℕ) → Near (total + 16) (parse total room rest)
  unfolding parse
  near_parse zero rest = omega arith
  near_parse (suc room) rest = near_parts (parse total room) (near_parse room) rest (meant (first_word rest))

near_begun : (n : ℕ) (s : List ℕ) → Near n (begun s)
near_begun n [] = omega arith
near_begun n (b ∷ bs) = cond_both (eqb b 32) _ (Ok (b ∷ bs)) (Near n) (λ _. omega arith) (λ _. tt)

-- no place of a text is more than a name behind its end
pub near_reading : (s : List ℕ) → Near (length s + 16) (reading s)
near_reading s =
    near_after (length s + 16) (begun s) _ (near_begun (length s + 16) s) (λ k.
    near_after (length s + 16) (parse (length s) 32 k) _ (near_parse (length s) 32 k) (λ p. near_ended (length s) p.0 p.1))
