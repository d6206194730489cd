-- A visitor sees the class names of the term that is read, and what a flag of it then says. Assumes nothing.
use Rattle.std.proofs.Common.{◌≡◌, ℕ, Bool, ◌||◌, List, [], ◌∷◌, ◌++◌, sym, ap, ◌∙◌, subst}
use Rattle.std.proofs.Math.Bool.{or_assoc, or-false}
use Rattle.std.specs.List.{FoldsTo, list_any}
use Rattle.glossary.specs.Visits.{class_in}
use Rattle.tables.specs.Vocabulary.{class_names}
use Rattle.terms.specs.Built.{Built}
use Rattle.terms.specs.Term.{Spelled, top, bottom, class, neg, and, or, exists, forall, may, must}
use Rattle.terms.specs.declared.nodes.Node.{Node}
use Rattle.terms.specs.declared.nodes.Sort.{Sort}

module _ {S : Type 0} (sees : S → List ℕ → S → Type 0) where
  then : (ws vs : List (List ℕ)) (s t u : S) → FoldsTo sees s ws t → FoldsTo sees t vs u → FoldsTo sees s (ws ++ vs) u
  then [] vs s t u e p = subst (λ x. FoldsTo sees x vs u) (sym e) p
  then (w ∷ ws) vs s t u (j, h, q) p = (j, h, then ws vs j t u q p)

  module _ {B : Type 0} (of : B → S) where
    abbrev labels : B → Sort → List ℕ → ℕ → B → Type 0
    labels s k w i t = FoldsTo sees (of s) (class_in k w) (of t)

    abbrev makes : B → Node → ℕ → B → Type 0
    makes s n i t = of s ≡ of t

    stay : (ws : List (List ℕ)) (s t u : B) → FoldsTo sees (of s) ws (of t) → of t ≡ of u → FoldsTo sees (of s) ws (of u)
    stay ws s t u p e = subst (FoldsTo sees (of s) ws) e p

    pub visited : (t : Spelled) (s : B) (i : ℕ) (s' : B) → Built labels makes t s i s' → FoldsTo sees (of s) (class_names t) (of s')
    visited top s i s' m = m
    visited bottom s i s' m = m
    visited (class w) s i s' (c, s₁, l, m) = stay (w ∷ []) s s₁ s' l m
    visited (neg t) s i s' (a, s₁, x, m) = stay (class_names t) s s₁ s' (visited t s a s₁ x) m
    visited (and t u) s i s' (a, s₁, b, s₂, x, y, m) =
        stay (class_names t ++ class_names u) s s₂ s' (then (class_names t) (class_names u) (of s) (of s₁) (of s₂) (visited t s a s₁ x) (visited u s₁ b s₂ y)) m
    visited (or t u) s i s' (a, s₁, b, s₂, x, y, m) =
        stay (class_names t ++ class_names u) s s₂ s' (then (class_names t) (class_names u) (of s) (of s₁) (of s₂) (visited t s a s₁ x) (visited u s₁ b s₂ y)) m
    visited (exists r t) s i s' (l, s₁, a, s₂, k, y, m) =
        stay (class_names t) s s₂ s' (then [] (class_names t) (of s) (of s₁) (of s₂) k (visited t s₁ a s₂ y)) m
    visited (forall r t) s i s' (l, s₁, a, s₂, k, y, m) =
        stay (class_names t) s s₂ s' (then [] (class_names t) (of s) (of s₁) (of s₂) k (visited t s₁ a s₂ y)) m
    visited (may k t) s i s' (a, s₁, x, m) = stay (class_names t) s s₁ s' (visited t s a s₁ x) m
    visited (must k t) s i s' (a, s₁, x, m) = stay (class_names t) s s₁ s' (visited t s a s₁ x) m

  -- a flag that some names raise
  module _ (flag : S → Bool) (raises : S → List ℕ → Bool) (step : (s : S) (w : List ℕ) (t : S) → sees s w t → (raises t ≡ raises s) × (flag t ≡ (flag s || raises s w))) where
    pub raised : (ws : List (List ℕ)) (s t : S) → FoldsTo sees s ws t → flag t ≡ (flag s || list_any (raises s) ws)
    raised [] s t e = ap flag (sym e) ∙ sym (or-false (flag s))
    raised (w ∷ ws) s t (j, h, p) =
        let x = step s w j h in
        raised ws j t p ∙ ap (λ r. flag j || list_any r ws) x.0 ∙ ap (λ b. b || list_any (raises s) ws) x.1 ∙ or_assoc (flag s) (raises s w) (list_any (raises s) ws)
