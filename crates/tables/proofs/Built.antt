-- What a builder that keeps a book makes of a term is what entering it makes. Assumes nothing.
use Rattle.std.proofs.Common.{◌≡◌, ℕ, List, ap, ◌∙◌}
use Rattle.tables.specs.Book.{Book, Labels, Makes, labelled, label_of, noded, node_of}
use Rattle.tables.specs.Entered.{Made, made, entered, IsEntered}
use Rattle.terms.specs.Built.{Built}
use Rattle.terms.specs.Term.{Spelled, top, bottom, class, neg, and, or, exists, forall, may, must}
use Rattle.terms.specs.declared.nodes.Node.{Node}
use Rattle.terms.specs.declared.nodes.Node.TheVariants.{Top, Bottom, Class, Not, And, Or, Exists, Forall, May, Must}
use Rattle.terms.specs.declared.nodes.Sort.{Sort}
use Rattle.terms.specs.declared.nodes.Sort.TheVariants.{OfClass, OfLink}

-- the book c and the number i are what those steps make
abbrev Is : Made → Book → ℕ → Type 0
Is m c i = (c ≡ m.book) × (i ≡ m.number)

-- a name
is_named : {b b' c : Book} {i : ℕ} (k : Sort) (w : List ℕ) → b ≡ b' → Labels b k w i c → Is (record { book = labelled k w b'; number = label_of k w b' }) c i
is_named k w e (l, n) = (l ∙ ap (labelled k w) e, n ∙ ap (label_of k w) e)

-- a node over nothing, over a part, and over a part with a number before it
is_made : {b b' c : Book} {i : ℕ} (n : Node) → b ≡ b' → Makes b n i c → Is (made n b') c i
is_made n e (g, h) = (g ∙ ap (noded n) e, h ∙ ap (node_of n) e)

is_over : {m : Made} {b c : Book} {a i : ℕ} (f : ℕ → Node) → Is m b a → Makes b (f a) i c → Is (made (f m.number) m.book) c i
is_over {m} {b} f (p, e) (g, h) = is_made (f m.number) p (g ∙ ap (λ k. noded (f k) b) e, h ∙ ap (λ k. node_of (f k) b) e)

is_pair : {m : Made} {b c : Book} {a a' k i : ℕ} (f : ℕ → ℕ → Node) → a ≡ a' → Is m b k → Makes b (f a k) i c → Is (made (f a' m.number) m.book) c i
is_pair {m} {b} {k = k} f e p (g, h) = is_over (f _) p (g ∙ ap (λ l. noded (f l k) b) e, h ∙ ap (λ l. node_of (f l k) b) e)

-- a builder that keeps the book v, and w as it was
module _ {S N : Type 0} (v : S → Book) (w : S → N) where
  abbrev labels : S → Sort → List ℕ → ℕ → S → Type 0
  labels s k n i t = Labels (v s) k n i (v t) × (w t ≡ w s)

  abbrev makes : S → Node → ℕ → S → Type 0
  makes s n i t = Makes (v s) n i (v t) × (w t ≡ w s)

  pub built_is : (t : Spelled) (s : S) (i : ℕ) (s' : S) (b : Book) → v s ≡ b → Built labels makes t s i s' → IsEntered t b i (v s')
  unfolding entered
  built_is top s i s' b e m = is_made Top e m.0
  built_is bottom s i s' b e m = is_made Bottom e m.0
  built_is (class n) s i s' b e (a, s₁, x, m) = is_over Class (is_named OfClass n e x.0) m.0
  built_is (neg t) s i s' b e (a, s₁, x, m) = is_over Not (built_is t s a s₁ b e x) m.0
  built_is (and t u) s i s' b e (a, s₁, c, s₂, x, y, m) = let p = built_is t s a s₁ b e x in is_pair And p.1 (built_is u s₁ c s₂ _ p.0 y) m.0
  built_is (or t u) s i s' b e (a, s₁, c, s₂, x, y, m) = let p = built_is t s a s₁ b e x in is_pair Or p.1 (built_is u s₁ c s₂ _ p.0 y) m.0
  built_is (exists r t) s i s' b e (l, s₁, a, s₂, x, y, m) = let p = is_named OfLink r e x.0 in is_pair Exists p.1 (built_is t s₁ a s₂ _ p.0 y) m.0
  built_is (forall r t) s i s' b e (l, s₁, a, s₂, x, y, m) = let p = is_named OfLink r e x.0 in is_pair Forall p.1 (built_is t s₁ a s₂ _ p.0 y) m.0
  built_is (may k t) s i s' b e (a, s₁, x, m) = is_over (May k) (built_is t s a s₁ b e x) m.0
  built_is (must k t) s i s' b e (a, s₁, x, m) = is_over (Must k) (built_is t s a s₁ b e x) m.0

  pub built_keeps : (t : Spelled) (s : S) (i : ℕ) (s' : S) → Built labels makes t s i s' → w s' ≡ w s
  built_keeps top s i s' m = m.1
  built_keeps bottom s i s' m = m.1
  built_keeps (class n) s i s' (a, s₁, x, m) = m.1 ∙ x.1
  built_keeps (neg t) s i s' (a, s₁, x, m) = m.1 ∙ built_keeps t s a s₁ x
  built_keeps (and t u) s i s' (a, s₁, c, s₂, x, y, m) = m.1 ∙ built_keeps u s₁ c s₂ y ∙ built_keeps t s a s₁ x
  built_keeps (or t u) s i s' (a, s₁, c, s₂, x, y, m) = m.1 ∙ built_keeps u s₁ c s₂ y ∙ built_keeps t s a s₁ x
  built_keeps (exists r t) s i s' (l, s₁, a, s₂, x, y, m) = m.1 ∙ built_keeps t s₁ a s₂ y ∙ x.1
  built_keeps (forall r t) s i s' (l, s₁, a, s₂, x, y, m) = m.1 ∙ built_keeps t s₁ a s₂ y ∙ x.1
  built_keeps (may k t) s i s' (a, s₁, x, m) = m.1 ∙ built_keeps t s a s₁ x
  built_keeps (must k t) s i s' (a, s₁, x, m) = m.1 ∙ built_keeps t s a s₁ x
