-- What a draft holds after a term was built in it: the term. Assumes nothing.
use Rattle.std.proofs.Common.{◌≡◌, ℕ, suc, ◌<◌, ◌≤◌, Bool, true, Ok, ◌&&◌, ltb, leb, List, [], ◌∷◌, ◌++◌, length, get_or, sym, refl, ap, ◌∙◌, subst, append_assoc, zero-add, arith}
use Rattle.std.proofs.lemmas.List.{append-nil, get_or_append_left, get_or_push, length-append, length_push}
use Rattle.std.proofs.lemmas.Bool.{and_from, lt-ltb, le-leb}
use Rattle.terms.specs.Built.{Built}
use Rattle.expressions.specs.Draft.{Contents, contents, Named, Noded, Labels, Makes}
use Rattle.expressions.specs.declared.drafts.Draft.{Draft}
use Rattle.terms.specs.Nodes.{sound, ordered, decoded, trees, tree, spelled}
use Rattle.terms.specs.Term.{Term, Spelled, top, bottom, class, neg, and, or, exists, forall, may, must, Valid}
use Rattle.terms.specs.declared.nodes.Node.{Node}
use Rattle.terms.specs.declared.nodes.Node.TheVariants.{Top, Bottom, Class, Not, And, Or, Exists, Forall, May, Must}
use Rattle.terms.specs.declared.nodes.Sort.{Sort}
use Rattle.terms.specs.declared.nodes.Sort.TheVariants.{OfClass, OfLink}
use Rattle.terms.proofs.Trees.{tree_kept, tree_push, ordered_more, ordered_push, tree_range, spelled_kept}

-- ys begins with xs
abbrev pub Front : {X : Type 0} → List X → List X → Type 0
Front {X} xs ys = (zs : List X) × (ys ≡ xs ++ zs)

front_trans : {X : Type 0} (xs ys zs : List X) → Front xs ys → Front ys zs → Front xs zs
front_trans xs ys zs (a, e) (b, f) = (a ++ b, f ∙ ap (λ l. l ++ b) e ∙ append_assoc xs a b)

front_long : {X : Type 0} (xs ys : List X) → Front xs ys → length xs ≤ length ys
front_long xs ys (a, e) = let l = ap length e ∙ length-append xs a in omega arith

front_get_or : {X : Type 0} (xs ys : List X) (k : ℕ) (d : X) → Front xs ys → k < length xs → get_or ys k d ≡ get_or xs k d
front_get_or xs ys k d (a, e) l = ap (λ z. get_or z k d) e ∙ get_or_append_left xs a d k l

abbrev pub Fair : Contents → Type 0
Fair d = ordered (length d.classes) (length d.links) 0 d.nodes ≡ true

-- the term of node i
abbrev pub term : Contents → ℕ → Spelled
term d i = spelled d.classes d.links (tree d.nodes i)

pub record Grew (d e : Contents) : Type 0 where
  pub classes : Front d.classes e.classes
  pub links : Front d.links e.links
  pub nodes : Front d.nodes e.nodes
  pub fair : Fair e

-- a term that was there is there still
term_kept : (d e : Contents) (i : ℕ) → Fair d → Grew d e → i < length d.nodes → term e i ≡ term d i
term_kept d e i f g l =
    let (xs, p) = g.classes in
    let (ys, q) = g.links in
    let (zs, r) = g.nodes in
    let same : tree e.nodes i ≡ tree d.nodes i = ap (λ ns. tree ns i) r ∙ tree_kept d.nodes zs i l in
    ap (spelled e.classes e.links) same ∙ ap (λ cs. spelled cs e.links (tree d.nodes i)) p ∙ ap (λ ls. spelled (d.classes ++ xs) ls (tree d.nodes i)) q
    ∙ spelled_kept d.classes xs d.links ys (tree d.nodes i) (tree_range _ _ d.nodes i f l)

pub record Says (d e : Contents) (i : ℕ) (t : Spelled) : Type 0 where
  pub grew : Grew d e
  pub last : suc i ≡ length e.nodes
  pub reads : term e i ≡ t

says_after : {d e f : Contents} {i : ℕ} {t : Spelled} → Grew d e → Says e f i t → Says d f i t
says_after {d = d} {e = e} {f = f} g s =
    record {
      grew = record {
        classes = front_trans d.classes e.classes f.classes g.classes s.grew.classes;
        links = front_trans d.links e.links f.links g.links s.grew.links;
        nodes = front_trans d.nodes e.nodes f.nodes g.nodes s.grew.nodes;
        fair = s.grew.fair;
      };
      last = s.last;
      reads = s.reads;
    }

-- a node over parts that are there
says_node : (d e : Contents) (n : Node) (i : ℕ) (t : Spelled) → Fair d → Noded d n i e → sound (length d.classes) (length d.links) (length d.nodes) n ≡ true → spelled d.classes d.links (decoded (trees d.nodes) n) ≡ t → Says d e i t
says_node d e n i t f (at, is) s r =
    let l = length_push d.nodes n in
    subst (λ e. Says d e i t) (sym is) (record {
      grew = record {
        classes = ([], sym (append-nil d.classes));
        links = ([], sym (append-nil d.links));
        nodes = (n ∷ [], refl);
        fair = ordered_push _ _ 0 d.nodes n f (subst (λ k. sound (length d.classes) (length d.links) k n ≡ true) (sym (zero-add (length d.nodes))) s);
      };
      last = omega arith;
      reads = ap (spelled d.classes d.links) (tree_push d.nodes n i (sym at)) ∙ r;
    })

-- a name that is added
grew_name : (d e : Contents) (k : Sort) (w : List ℕ) (i : ℕ) → Fair d → Named d k w i e → Grew d e
grew_name d e OfClass w i f (at, is) =
    let l = length_push d.classes w in
    subst (Grew d) (sym is) (record {
      classes = (w ∷ [], refl);
      links = ([], sym (append-nil d.links));
      nodes = ([], sym (append-nil d.nodes));
      fair = ordered_more (length d.classes) (length d.links) (length (d.classes ++ w ∷ [])) (length d.links) 0 (omega arith) (omega arith) d.nodes f;
    })
grew_name d e OfLink w i f (at, is) =
    let l = length_push d.links w in
    subst (Grew d) (sym is) (record {
      classes = ([], sym (append-nil d.classes));
      links = (w ∷ [], refl);
      nodes = ([], sym (append-nil d.nodes));
      fair = ordered_more (length d.classes) (length d.links) (length d.classes) (length (d.links ++ w ∷ [])) 0 (omega arith) (omega arith) d.nodes f;
    })

-- one part, two parts, and a link with a part

below : {d e : Contents} {a : ℕ} {t : Spelled} → Says d e a t → ltb a (length e.nodes) ≡ true
below {e = e} {a = a} p = lt-ltb a (length e.nodes) (omega arith)

one_says : {d d₁ e : Contents} {t : Spelled} {a i : ℕ} (make : Spelled → Spelled) (n : Node) → ((ts : List (Term ℕ)) → spelled d₁.classes d₁.links (decoded ts n) ≡ make (spelled d₁.classes d₁.links (get_or ts a bottom))) → (ltb a (length d₁.nodes) ≡ true → sound (length d₁.classes) (length d₁.links) (length d₁.nodes) n ≡ true) → Says d d₁ a t → Noded d₁ n i e → Says d e i (make t)
one_says {d₁ = d₁} {e = e} {t = t} {i = i} make n shape fits p m =
    says_after p.grew (says_node d₁ e n i (make t) p.grew.fair m (fits (below p)) (shape (trees d₁.nodes) ∙ ap make p.reads))

pair_says : {d d₁ d₂ e : Contents} {t u : Spelled} {a b i : ℕ} (make : Spelled → Spelled → Spelled) (n : ℕ → ℕ → Node) → ((ts : List (Term ℕ)) → spelled d₂.classes d₂.links (decoded ts (n a b)) ≡ make (spelled d₂.classes d₂.links (get_or ts a bottom)) (spelled d₂.classes d₂.links (get_or ts b bottom))) → (ltb a (length d₂.nodes) ≡ true → ltb b (length d₂.nodes) ≡ true → sound (length d₂.classes) (length d₂.links) (length d₂.nodes) (n a b) ≡ true) → Says d d₁ a t → Says d₁ d₂ b u → Noded d₂ (n a b) i e → Says d e i (make t u)
pair_says {d₁ = d₁} {d₂ = d₂} {e = e} {t = t} {u = u} {a = a} {b = b} {i = i} make n shape fits p q m =
    let more = front_long d₁.nodes d₂.nodes q.grew.nodes in
    let left = term_kept d₁ d₂ a p.grew.fair q.grew (omega arith) ∙ p.reads in
    says_after p.grew
    (says_after q.grew
    (says_node d₂ e (n a b) i (make t u) q.grew.fair m (fits (lt-ltb a (length d₂.nodes) (omega arith)) (below q)) (shape (trees d₂.nodes) ∙ ap (λ x. make x (term d₂ b)) left ∙ ap (make t) q.reads)))

link_name : (d e f : Contents) (r : List ℕ) (l : ℕ) → Named d OfLink r l e → Grew e f → (get_or f.links l [] ≡ r) × (ltb l (length f.links) ≡ true)
link_name d e f r l (at, is) g =
    let links : e.links ≡ d.links ++ r ∷ [] = ap (λ x. x.links) is in
    let long = ap length links ∙ length_push d.links r in
    let more = front_long e.links f.links g.links in
    (front_get_or e.links f.links l [] g.links (omega arith) ∙ ap (λ x. get_or x l []) links ∙ get_or_push d.links r [] l (sym at), lt-ltb l (length f.links) (omega arith))

link_says : {d d₁ d₂ e : Contents} {r : List ℕ} {t : Spelled} {l a i : ℕ} (make : List ℕ → Spelled → Spelled) (n : ℕ → ℕ → Node) → ((ts : List (Term ℕ)) → spelled d₂.classes d₂.links (decoded ts (n l a)) ≡ make (get_or d₂.links l []) (spelled d₂.classes d₂.links (get_or ts a bottom))) → (ltb l (length d₂.links) ≡ true → ltb a (length d₂.nodes) ≡ true → sound (length d₂.classes) (length d₂.links) (length d₂.nodes) (n l a) ≡ true) → Grew d d₁ → Named d OfLink r l d₁ → Says d₁ d₂ a t → Noded d₂ (n l a) i e → Says d e i (make r t)
link_says {d = d} {d₁ = d₁} {d₂ = d₂} {e = e} {r = r} {t = t} {l = l} {a = a} {i = i} make n shape fits g x q m =
    let (name, known) = link_name d d₁ d₂ r l x q.grew in
    says_after g
    (says_after q.grew
    (says_node d₂ e (n l a) i (make r t) q.grew.fair m (fits known (below q)) (shape (trees d₂.nodes) ∙ ap (λ y. make y (term d₂ a)) name ∙ ap (make r) q.reads)))

reader_fits : (k : ℕ) (x : Bool) → 1 ≤ k → k ≤ 8 → x ≡ true → ((leb 1 k && leb k 8) && x) ≡ true
reader_fits k x l h e = and_from _ _ (and_from _ _ (le-leb 1 k l) (le-leb k 8 h)) e

pub says : (t : Spelled) (d e : Contents) (i : ℕ) → Valid t → Fair d → Built Named Noded t d i e → Says d e i t
says top d e i w f m = says_node d e Top i top f m refl refl
says bottom d e i w f m = says_node d e Bottom i bottom f m refl refl
says (class n) d e i w f (c, d₁, l, m) =
    let g = grew_name d d₁ OfClass n c f l in
    let classes : d₁.classes ≡ d.classes ++ n ∷ [] = ap (λ x. x.classes) l.1 in
    let at = l.0 in
    let long = ap length classes ∙ length_push d.classes n in
    says_after g
    (says_node d₁ e (Class c) i (class n) g.fair m (lt-ltb c (length d₁.classes) (omega arith)) (ap class (ap (λ x. get_or x c []) classes ∙ get_or_push d.classes n [] c (sym at))))
says (neg t) d e i w f (a, d₁, b, m) = one_says neg (Not a) (λ ts. refl) (λ x. x) (says t d d₁ a w f b) m
says (and t u) d e i (w, z) f (a, d₁, b, d₂, x, y, m) =
    let p = says t d d₁ a w f x in pair_says and And (λ ts. refl) (λ h k. and_from _ _ h k) p (says u d₁ d₂ b z p.grew.fair y) m
says (or t u) d e i (w, z) f (a, d₁, b, d₂, x, y, m) =
    let p = says t d d₁ a w f x in pair_says or Or (λ ts. refl) (λ h k. and_from _ _ h k) p (says u d₁ d₂ b z p.grew.fair y) m
says (exists r t) d e i (w, z) f (l, d₁, a, d₂, x, y, m) =
    let g = grew_name d d₁ OfLink r l f x in link_says exists Exists (λ ts. refl) (λ h k. and_from _ _ h k) g x (says t d₁ d₂ a z g.fair y) m
says (forall r t) d e i (w, z) f (l, d₁, a, d₂, x, y, m) =
    let g = grew_name d d₁ OfLink r l f x in link_says forall Forall (λ ts. refl) (λ h k. and_from _ _ h k) g x (says t d₁ d₂ a z g.fair y) m
says (may k t) d e i (lo, hi, w) f (a, d₁, b, m) =
    one_says (may k) (May k a) (λ ts. refl) (reader_fits k (ltb a (length d₁.nodes)) lo hi) (says t d d₁ a w f b) m
says (must k t) d e i (lo, hi, w) f (a, d₁, b, m) =
    one_says (must k) (Must k a) (λ ts. refl) (reader_fits k (ltb a (length d₁.nodes)) lo hi) (says t d d₁ a w f b) m

-- where memory sufficed at the end it did before, and the draft took each name and node
pub sufficed : (t : Spelled) (d e : Draft) (i : ℕ) → Built Labels Makes t d i e → e.memory ≡ Ok tt → (d.memory ≡ Ok tt) × (Built Named Noded t (contents d.parts) i (contents e.parts))
sufficed top d e i m s = m s
sufficed bottom d e i m s = m s
sufficed (class n) d e i (c, d₁, l, m) s =
    let (s₁, made) = m s in
    let (s₀, name) = l s₁ in (s₀, (c, contents d₁.parts, name, made))
sufficed (neg t) d e i (a, d₁, b, m) s =
    let (s₁, made) = m s in
    let (s₀, part) = sufficed t d d₁ a b s₁ in (s₀, (a, contents d₁.parts, part, made))
sufficed (and t u) d e i (a, d₁, b, d₂, x, y, m) s =
    let (s₂, made) = m s in
    let (s₁, right) = sufficed u d₁ d₂ b y s₂ in
    let (s₀, left) = sufficed t d d₁ a x s₁ in (s₀, (a, contents d₁.parts, b, contents d₂.parts, left, right, made))
sufficed (or t u) d e i (a, d₁, b, d₂, x, y, m) s =
    let (s₂, made) = m s in
    let (s₁, right) = sufficed u d₁ d₂ b y s₂ in
    let (s₀, left) = sufficed t d d₁ a x s₁ in (s₀, (a, contents d₁.parts, b, contents d₂.parts, left, right, made))
sufficed (exists r t) d e i (l, d₁, a, d₂, x, y, m) s =
    let (s₂, made) = m s in
    let (s₁, part) = sufficed t d₁ d₂ a y s₂ in
    let (s₀, name) = x s₁ in (s₀, (l, contents d₁.parts, a, contents d₂.parts, name, part, made))
sufficed (forall r t) d e i (l, d₁, a, d₂, x, y, m) s =
    let (s₂, made) = m s in
    let (s₁, part) = sufficed t d₁ d₂ a y s₂ in
    let (s₀, name) = x s₁ in (s₀, (l, contents d₁.parts, a, contents d₂.parts, name, part, made))
sufficed (may k t) d e i (a, d₁, b, m) s =
    let (s₁, made) = m s in
    let (s₀, part) = sufficed t d d₁ a b s₁ in (s₀, (a, contents d₁.parts, part, made))
sufficed (must k t) d e i (a, d₁, b, m) s =
    let (s₁, made) = m s in
    let (s₀, part) = sufficed t d d₁ a b s₁ in (s₀, (a, contents d₁.parts, part, made))
