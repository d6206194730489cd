-- The trees of a table of nodes, as the table and its names grow. Assumes nothing.
use Rattle.std.proofs.Common.{◌≡◌, ℕ, zero, suc, ◌+◌, ◌<◌, ◌≤◌, true, List, [], ◌∷◌, ◌++◌, length, get_or, take, drop, sym, refl, ap, ◌∙◌, subst, ⊎_elim, append_assoc, add-zero, zero-add, arith, take-append-drop}
use Rattle.std.proofs.lemmas.List.{drop_more, get_or_append_left, get_or_push, length_push, length-take-le}
use Rattle.std.proofs.lemmas.Bool.{and_parts, and_from, cases_lt}
use Rattle.std.proofs.lemmas.Bool.Decides.{nat_tests}
use Rattle.terms.specs.Nodes.{sound, ordered, decoded, trees_after, trees, tree, spelled}
use Rattle.terms.specs.Term.{Term, top, bottom, class, neg, and, or, exists, forall, may, must}
use Rattle.terms.specs.declared.nodes.Node.{Node}
use Rattle.terms.specs.declared.nodes.Node.TheVariants.{Top, Bottom, Class, Not, And, Or, Exists, Forall, May, Must}

-- trees

length_after : (ts : List (Term ℕ)) (ns : List Node) → length (trees_after ts ns) ≡ length ts + length ns
length_after ts [] = sym (add-zero (length ts))
length_after ts (n ∷ ns) = let l = length_push ts (decoded ts n) in let h = length_after (ts ++ decoded ts n ∷ []) ns in omega arith

pub length_trees : (ns : List Node) → length (trees ns) ≡ length ns
unfolding trees
length_trees ns = length_after [] ns ∙ zero-add (length ns)

after_append : (ts : List (Term ℕ)) (ns ms : List Node) → trees_after ts (ns ++ ms) ≡ trees_after (trees_after ts ns) ms
after_append ts [] ms = refl
after_append ts (n ∷ ns) ms = after_append (ts ++ decoded ts n ∷ []) ns ms

after_kept : (ts : List (Term ℕ)) (ns : List Node) (k : ℕ) (d : Term ℕ) → k < length ts → get_or (trees_after ts ns) k d ≡ get_or ts k d
after_kept ts [] k d l = refl
after_kept ts (n ∷ ns) k d l =
    let long = length_push ts (decoded ts n) in
    after_kept (ts ++ decoded ts n ∷ []) ns k d (omega arith) ∙ get_or_append_left ts (decoded ts n ∷ []) d k l

pub tree_kept : (ns zs : List Node) (i : ℕ) → i < length ns → tree (ns ++ zs) i ≡ tree ns i
unfolding trees
tree_kept ns zs i l =
    let long = length_after [] ns in
    ap (λ ts. get_or ts i bottom) (after_append [] ns zs) ∙ after_kept (trees_after [] ns) zs i bottom (omega arith)

pub tree_push : (ns : List Node) (n : Node) (i : ℕ) → length ns ≡ i → tree (ns ++ n ∷ []) i ≡ decoded (trees ns) n
unfolding trees
tree_push ns n i e =
    let long = length_after [] ns in
    ap (λ ts. get_or ts i bottom) (after_append [] ns (n ∷ [])) ∙ get_or_push (trees_after [] ns) (decoded (trees_after [] ns) n) bottom i (omega arith)

pub trees_push : (ns : List Node) (n : Node) → trees (ns ++ n ∷ []) ≡ trees ns ++ decoded (trees ns) n ∷ []
unfolding trees
trees_push ns n = after_append [] ns (n ∷ [])

-- order

sound_more : (nc nl nc' nl' p : ℕ) → nc ≤ nc' → nl ≤ nl' → (n : Node) → sound nc nl p n ≡ true → sound nc' nl' p n ≡ true
sound_more nc nl nc' nl' p c l Top s = refl
sound_more nc nl nc' nl' p c l Bottom s = refl
sound_more nc nl nc' nl' p c l (Class a) s = grind (arith, nat_tests)
sound_more nc nl nc' nl' p c l (Not a) s = s
sound_more nc nl nc' nl' p c l (And a b) s = s
sound_more nc nl nc' nl' p c l (Or a b) s = s
sound_more nc nl nc' nl' p c l (Exists a b) s = grind (arith, nat_tests)
sound_more nc nl nc' nl' p c l (Forall a b) s = grind (arith, nat_tests)
sound_more nc nl nc' nl' p c l (May i a) s = s
sound_more nc nl nc' nl' p c l (Must i a) s = s

pub ordered_more : (nc nl nc' nl' p : ℕ) → nc ≤ nc' → nl ≤ nl' → (ns : List Node) → ordered nc nl p ns ≡ true → ordered nc' nl' p ns ≡ true
ordered_more nc nl nc' nl' p c l [] o = refl
ordered_more nc nl nc' nl' p c l (n ∷ ns) o = grind (arith, nat_tests, sound_more nc nl nc' nl' p c l n, ordered_more nc nl nc' nl' (suc p) c l ns)

pub ordered_push : (nc nl p : ℕ) (ns : List Node) (n : Node) → ordered nc nl p ns ≡ true → sound nc nl (p + length ns) n ≡ true → ordered nc nl p (ns ++ n ∷ []) ≡ true
ordered_push nc nl p [] n o s = grind (arith, nat_tests)
ordered_push nc nl p (m ∷ ns) n o s =
    let q = and_parts (sound nc nl p m) (ordered nc nl (suc p) ns) o in
    let same : p + suc (length ns) ≡ suc p + length ns = omega arith in
    and_from _ _ q.0 (ordered_push nc nl (suc p) ns n q.1 (subst (λ k. sound nc nl k n ≡ true) same s))

pub ordered_at : (nc nl p : ℕ) (ns : List Node) (k : ℕ) → ordered nc nl p ns ≡ true → k < length ns → sound nc nl (p + k) (get_or ns k Bottom) ≡ true
ordered_at nc nl p [] k o l = absurd (omega arith)
ordered_at nc nl p (n ∷ ns) zero o l = grind (arith, nat_tests)
ordered_at nc nl p (n ∷ ns) (suc k) o l =
    let q = and_parts (sound nc nl p n) (ordered nc nl (suc p) ns) o in
    let same : suc p + k ≡ p + suc k = omega arith in
    subst (λ j. sound nc nl j (get_or ns k Bottom) ≡ true) same (ordered_at nc nl (suc p) ns k q.1 (omega arith))

-- what is decoded depends on the trees before it alone
pub decoded_same : (ts us : List (Term ℕ)) (nc nl p : ℕ) → ((k : ℕ) → k < p → get_or ts k bottom ≡ get_or us k bottom) → (n : Node) → sound nc nl p n ≡ true → decoded ts n ≡ decoded us n
decoded_same ts us nc nl p h Top s = refl
decoded_same ts us nc nl p h Bottom s = refl
decoded_same ts us nc nl p h (Class c) s = refl
decoded_same ts us nc nl p h (Not a) s = grind (arith, nat_tests)
decoded_same ts us nc nl p h (And a b) s = grind (arith, nat_tests)
decoded_same ts us nc nl p h (Or a b) s = grind (arith, nat_tests)
decoded_same ts us nc nl p h (Exists l a) s = grind (arith, nat_tests)
decoded_same ts us nc nl p h (Forall l a) s = grind (arith, nat_tests)
decoded_same ts us nc nl p h (May i a) s = grind (arith, nat_tests)
decoded_same ts us nc nl p h (Must i a) s = grind (arith, nat_tests)

-- the tree of a node is over the trees of its parts
pub tree_at : (nc nl : ℕ) (ns : List Node) (i : ℕ) → ordered nc nl 0 ns ≡ true → i < length ns → tree ns i ≡ decoded (trees ns) (get_or ns i Bottom)
tree_at nc nl ns i o l =
    let n : Node = get_or ns i Bottom in
    let front : List Node = take i ns in
    let back : List Node = drop (i + 1) ns in
    let cut = length-take-le i ns (omega arith) in
    let split : ns ≡ front ++ n ∷ back = sym (take-append-drop i ns) ∙ ap (λ x. front ++ x) (drop_more ns i Bottom l) in
    let whole : ns ≡ (front ++ n ∷ []) ++ back = split ∙ sym (append_assoc front (n ∷ []) back) in
    let long = length_push front n in
    let s : sound nc nl i n ≡ true = subst (λ k. sound nc nl k n ≡ true) (zero-add i) (ordered_at nc nl 0 ns i o l) in
    ap (λ x. tree x i) whole ∙ tree_kept (front ++ n ∷ []) back i (omega arith) ∙ tree_push front n i cut
    ∙ decoded_same (trees front) (trees ns) nc nl i (λ k h. sym (ap (λ x. tree x k) split ∙ tree_kept front (n ∷ back) k (omega arith))) n s

-- names in range

-- each class and link has a name, and each reader is from 1 to 8
abbrev pub InRange : ℕ → ℕ → Term ℕ → Type 0
InRange nc nl top = Unit {0}
InRange nc nl bottom = Unit {0}
InRange nc nl (class c) = c < nc
InRange nc nl (neg t) = InRange nc nl t
InRange nc nl (and t u) = InRange nc nl t × InRange nc nl u
InRange nc nl (or t u) = InRange nc nl t × InRange nc nl u
InRange nc nl (exists l t) = (l < nl) × InRange nc nl t
InRange nc nl (forall l t) = (l < nl) × InRange nc nl t
InRange nc nl (may i t) = ((1 ≤ i) × (i ≤ 8)) × InRange nc nl t
InRange nc nl (must i t) = ((1 ≤ i) × (i ≤ 8)) × InRange nc nl t

-- all trees in a list are
abbrev Ranged : ℕ → ℕ → List (Term ℕ) → Type 0
Ranged nc nl ts = (k : ℕ) → k < length ts → InRange nc nl (get_or ts k bottom)

decoded_range : (nc nl : ℕ) (ts : List (Term ℕ)) → Ranged nc nl ts → (n : Node) → sound nc nl (length ts) n ≡ true → InRange nc nl (decoded ts n)
decoded_range nc nl ts r Top s = tt
decoded_range nc nl ts r Bottom s = tt
decoded_range nc nl ts r (Class c) s = grind (arith, nat_tests)
decoded_range nc nl ts r (Not a) s = grind (arith, nat_tests)
decoded_range nc nl ts r (And a b) s = grind (arith, nat_tests)
decoded_range nc nl ts r (Or a b) s = grind (arith, nat_tests)
decoded_range nc nl ts r (Exists l a) s = grind (arith, nat_tests)
decoded_range nc nl ts r (Forall l a) s = grind (arith, nat_tests)
decoded_range nc nl ts r (May i a) s = grind (arith, nat_tests)
decoded_range nc nl ts r (Must i a) s = grind (arith, nat_tests)

ranged_push : (nc nl : ℕ) (ts : List (Term ℕ)) (t : Term ℕ) → Ranged nc nl ts → InRange nc nl t → Ranged nc nl (ts ++ t ∷ [])
ranged_push nc nl ts t r h k l =
    let long = length_push ts t in
    ⊎_elim
    (λ lt. subst (InRange nc nl) (sym (get_or_append_left ts (t ∷ []) bottom k lt)) (r k lt))
    (λ ge. subst (InRange nc nl) (sym (get_or_push ts t bottom k (omega arith))) h)
    (cases_lt k (length ts))

after_range : (nc nl : ℕ) (ts : List (Term ℕ)) (ns : List Node) → Ranged nc nl ts → ordered nc nl (length ts) ns ≡ true → Ranged nc nl (trees_after ts ns)
after_range nc nl ts [] r o = r
after_range nc nl ts (n ∷ ns) r o =
    let q = and_parts (sound nc nl (length ts) n) (ordered nc nl (suc (length ts)) ns) o in
    let long : suc (length ts) ≡ length (ts ++ decoded ts n ∷ []) = let h = length_push ts (decoded ts n) in omega arith in
    after_range nc nl (ts ++ decoded ts n ∷ []) ns (ranged_push nc nl ts (decoded ts n) r (decoded_range nc nl ts r n q.0)) (subst (λ k. ordered nc nl k ns ≡ true) long q.1)

pub tree_range : (nc nl : ℕ) (ns : List Node) (i : ℕ) → ordered nc nl 0 ns ≡ true → i < length ns → InRange nc nl (tree ns i)
unfolding trees
tree_range nc nl ns i o l =
    let long = length_after [] ns in
    after_range nc nl [] ns (λ k h. absurd (omega arith)) o i (omega arith)

-- more names leave the spelling as it was
pub spelled_kept : (cs xs ls ys : List (List ℕ)) (t : Term ℕ) → InRange (length cs) (length ls) t → spelled (cs ++ xs) (ls ++ ys) t ≡ spelled cs ls t
spelled_kept cs xs ls ys top r = refl
spelled_kept cs xs ls ys bottom r = refl
spelled_kept cs xs ls ys (class c) r = ap class (get_or_append_left cs xs [] c r)
spelled_kept cs xs ls ys (neg t) r = ap neg (spelled_kept cs xs ls ys t r)
spelled_kept cs xs ls ys (and t u) (r, s) = let p = spelled_kept cs xs ls ys t r in let q = spelled_kept cs xs ls ys u s in cc
spelled_kept cs xs ls ys (or t u) (r, s) = let p = spelled_kept cs xs ls ys t r in let q = spelled_kept cs xs ls ys u s in cc
spelled_kept cs xs ls ys (exists l t) (r, s) = let p = get_or_append_left ls ys [] l r in let q = spelled_kept cs xs ls ys t s in cc
spelled_kept cs xs ls ys (forall l t) (r, s) = let p = get_or_append_left ls ys [] l r in let q = spelled_kept cs xs ls ys t s in cc
spelled_kept cs xs ls ys (may i t) (r, s) = ap (may i) (spelled_kept cs xs ls ys t s)
spelled_kept cs xs ls ys (must i t) (r, s) = ap (must i) (spelled_kept cs xs ls ys t s)
