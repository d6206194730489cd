-- What a builder makes of a term that is read: its names and nodes, entered from left to right, parts before wholes.
-- `labels s k n i s'`: in state s the name n of sort k gets the number i, which leaves s'; `makes` likewise a node.
-- Assumes nothing.
use Rattle.std.specs.Prelude.{ℕ, List}
use Rattle.terms.specs.Term.{Spelled, top, bottom, class, neg, and, or, exists, forall, may, must}
use Rattle.terms.specs.declared.nodes.Node.{Node}
use Rattle.terms.specs.declared.nodes.Node.TheVariants.{Top, Bottom, Class, Not, And, Or, Exists, Forall, May, Must}
use Rattle.terms.specs.declared.nodes.Sort.{Sort}
use Rattle.terms.specs.declared.nodes.Sort.TheVariants.{OfClass, OfLink}

module _ {S : Type 0} (labels : S → Sort → List ℕ → ℕ → S → Type 0) (makes : S → Node → ℕ → S → Type 0) where
  -- the parts first, then the node over their numbers
  abbrev pub Built : Spelled → S → ℕ → S → Type 0
  Built top s i s' = makes s Top i s'
  Built bottom s i s' = makes s Bottom i s'
  Built (class n) s i s' = (c : ℕ) × (s₁ : S) × labels s OfClass n c s₁ × makes s₁ (Class c) i s'
  Built (neg t) s i s' = (a : ℕ) × (s₁ : S) × Built t s a s₁ × makes s₁ (Not a) i s'
  Built (and t u) s i s' = (a : ℕ) × (s₁ : S) × (b : ℕ) × (s₂ : S) × Built t s a s₁ × Built u s₁ b s₂ × makes s₂ (And a b) i s'
  Built (or t u) s i s' = (a : ℕ) × (s₁ : S) × (b : ℕ) × (s₂ : S) × Built t s a s₁ × Built u s₁ b s₂ × makes s₂ (Or a b) i s'
  Built (exists r t) s i s' = (l : ℕ) × (s₁ : S) × (a : ℕ) × (s₂ : S) × labels s OfLink r l s₁ × Built t s₁ a s₂ × makes s₂ (Exists l a) i s'
  Built (forall r t) s i s' = (l : ℕ) × (s₁ : S) × (a : ℕ) × (s₂ : S) × labels s OfLink r l s₁ × Built t s₁ a s₂ × makes s₂ (Forall l a) i s'
  Built (may k t) s i s' = (a : ℕ) × (s₁ : S) × Built t s a s₁ × makes s₁ (May k a) i s'
  Built (must k t) s i s' = (a : ℕ) × (s₁ : S) × Built t s a s₁ × makes s₁ (Must k a) i s'
