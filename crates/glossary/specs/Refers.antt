-- Which classes a gloss mentions, and to which classes a class refers through glosses. Assumes nothing.
use Rattle.std.specs.Prelude.{◌≡◌, ℕ, zero, suc, Bool, true, false, ◌||◌, List, [], ◌∷◌, ◌++◌, Some, None, Option, ◌==◌}
use Rattle.std.specs.List.{list_any}
use Rattle.glossary.specs.Any.{is_in}
use Rattle.terms.specs.Term.{Term, top, bottom, class, neg, and, or, exists, forall, may, must}

-- the classes that a term mentions, from left to right
abbrev pub classes_of : Term ℕ → List ℕ
classes_of top = []
classes_of bottom = []
classes_of (class c) = c ∷ []
classes_of (neg t) = classes_of t
classes_of (and t u) = classes_of t ++ classes_of u
classes_of (or t u) = classes_of t ++ classes_of u
classes_of (exists r t) = classes_of t
classes_of (forall r t) = classes_of t
classes_of (may i t) = classes_of t
classes_of (must i t) = classes_of t

-- what a gloss mentions, where there is one
abbrev pub mentioned : Option (Term ℕ) → List ℕ
mentioned None = []
mentioned (Some t) = classes_of t

-- Class c refers to d, where D says what the gloss of each class mentions.
pub data Refers (D : ℕ → List ℕ) : ℕ → ℕ → Type 0 where
  direct : {c d : ℕ} → is_in d (D c) ≡ true → Refers D c d
  through : {c d e : ℕ} → is_in e (D c) ≡ true → Refers D e d → Refers D c d

-- the same as a test, through at most n glosses
abbrev pub refers_within : ℕ → (ℕ → List ℕ) → ℕ → ℕ → Bool
refers_within zero D c d = false
refers_within (suc n) D c d = list_any (λ e. (e == d) || refers_within n D e d) (D c)
