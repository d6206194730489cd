-- Reading a term, step by step, as the code goes. Assumes nothing.
use Rattle.std.proofs.Common.{◌≡◌, ℕ, suc, ◌-◌, List, Err, ap, arith}
use Rattle.terms.specs.Built.{Built}
use Rattle.terms.specs.Forms.{joins, quantifies, modalizes, join_node, quantifier_node, modal_node}
use Rattle.terms.specs.Parse.{parts, parse, place}
use Rattle.terms.specs.Term.{Spelled}
use Rattle.terms.specs.Word.{first_word, meant}
use Rattle.terms.specs.declared.nodes.Node.{Node}
use Rattle.terms.specs.declared.nodes.Sort.{Sort}
use Rattle.terms.specs.declared.nodes.Sort.TheVariants.{OfLink}
use Rattle.names.specs.declared.refusals.Refusal.TheVariants.{TooDeep}
use Rattle.terms.specs.declared.words.Join.{Join}
use Rattle.terms.specs.declared.words.Join.TheVariants.{And, Or}
use Rattle.terms.specs.declared.words.Modality.{Modality}
use Rattle.terms.specs.declared.words.Modality.TheVariants.{May, Must}
use Rattle.terms.specs.declared.words.Quantifier.{Quantifier}
use Rattle.terms.specs.declared.words.Quantifier.TheVariants.{Exists, Forall}

pub parse_none : (total room : ℕ) (rest : List ℕ) → room ≡ 0 → parse total room rest ≡ Err (TooDeep (place total rest))
unfolding parse
parse_none total room rest z = ap (λ n. parse total n rest) z

-- the first word of rest decides how it is read
pub parse_by : (total room : ℕ) (rest : List ℕ) → (room ≡ 0 → ⊥) → parse total room rest ≡ parts total (parse total (room - 1)) rest (meant (first_word rest))
unfolding parse
parse_by total room rest more =
    let one : room ≡ suc (room - 1) = omega arith in
    ap (λ n. parse total n rest) one

module _ {S : Type 0} (labels : S → Sort → List ℕ → ℕ → S → Type 0) (makes : S → Node → ℕ → S → Type 0) where
  pub join_built : (j : Join) (t u : Spelled) (s s₁ s₂ s₃ : S) (a b i : ℕ) → Built labels makes t s a s₁ → Built labels makes u s₁ b s₂ → makes s₂ (join_node j a b) i s₃ → Built labels makes (joins j t u) s i s₃
  join_built And t u s s₁ s₂ s₃ a b i x y m = (a, s₁, b, s₂, x, y, m)
  join_built Or t u s s₁ s₂ s₃ a b i x y m = (a, s₁, b, s₂, x, y, m)

  pub quantifier_built : (q : Quantifier) (r : List ℕ) (t : Spelled) (s s₁ s₂ s₃ : S) (l a i : ℕ) → labels s OfLink r l s₁ → Built labels makes t s₁ a s₂ → makes s₂ (quantifier_node q l a) i s₃ → Built labels makes (quantifies q r t) s i s₃
  quantifier_built Exists r t s s₁ s₂ s₃ l a i x y m = (l, s₁, a, s₂, x, y, m)
  quantifier_built Forall r t s s₁ s₂ s₃ l a i x y m = (l, s₁, a, s₂, x, y, m)

  pub modal_built : (q : Modality) (k : ℕ) (t : Spelled) (s s₁ s₂ : S) (a i : ℕ) → Built labels makes t s a s₁ → makes s₁ (modal_node q k a) i s₂ → Built labels makes (modalizes q k t) s i s₂
  modal_built May k t s s₁ s₂ a i x m = (a, s₁, x, m)
  modal_built Must k t s s₁ s₂ a i x m = (a, s₁, x, m)
