-- A term whose names are known: its numbers stay, and spell it. Assumes nothing.
use Rattle.std.proofs.Common.{◌≡◌, ℕ, ◌<◌, List, ◌∷◌, ◌++◌, length, sym, refl, ap, subst, arith}
use Rattle.distinct.specs.Numbering.{number}
use Rattle.tables.proofs.Numbers.{front_long, front_number, number_at, with_known, all_front, all_append}
use Rattle.tables.specs.Entry.{Front}
use Rattle.tables.specs.Vocabulary.{with_name, with_names, class_names, link_names, numbered}
use Rattle.terms.specs.Nodes.{spelled}
use Rattle.terms.specs.Term.{Spelled, top, bottom, class, neg, and, or, exists, forall, may, must}

-- names that are known keep their numbers

abbrev pub Known : List (List ℕ) → List (List ℕ) → Spelled → Type 0
Known cs ls top = Unit {0}
Known cs ls bottom = Unit {0}
Known cs ls (class w) = number cs w < length cs
Known cs ls (neg t) = Known cs ls t
Known cs ls (and t u) = Known cs ls t × Known cs ls u
Known cs ls (or t u) = Known cs ls t × Known cs ls u
Known cs ls (exists r t) = (number ls r < length ls) × Known cs ls t
Known cs ls (forall r t) = (number ls r < length ls) × Known cs ls t
Known cs ls (may i t) = Known cs ls t
Known cs ls (must i t) = Known cs ls t

module _ (cs cs' ls ls' : List (List ℕ)) (c : Front cs cs') (l : Front ls ls') where
  pub known_kept : (t : Spelled) → Known cs ls t → Known cs' ls' t
  known_kept top k = tt
  known_kept bottom k = tt
  known_kept (class w) k = let n = front_number cs cs' w c k in let m = front_long cs cs' c in omega arith
  known_kept (neg t) k = known_kept t k
  known_kept (and t u) (k, m) = (known_kept t k, known_kept u m)
  known_kept (or t u) (k, m) = (known_kept t k, known_kept u m)
  known_kept (exists r t) (k, m) = ((let n = front_number ls ls' r l k in let h = front_long ls ls' l in omega arith), known_kept t m)
  known_kept (forall r t) (k, m) = ((let n = front_number ls ls' r l k in let h = front_long ls ls' l in omega arith), known_kept t m)
  known_kept (may i t) k = known_kept t k
  known_kept (must i t) k = known_kept t k

  pub numbered_kept : (t : Spelled) → Known cs ls t → numbered cs' ls' t ≡ numbered cs ls t
  numbered_kept top k = refl
  numbered_kept bottom k = refl
  numbered_kept (class w) k = ap class (front_number cs cs' w c k)
  numbered_kept (neg t) k = ap neg (numbered_kept t k)
  numbered_kept (and t u) (k, m) = let p = numbered_kept t k in let q = numbered_kept u m in cc
  numbered_kept (or t u) (k, m) = let p = numbered_kept t k in let q = numbered_kept u m in cc
  numbered_kept (exists r t) (k, m) = let p = front_number ls ls' r l k in let q = numbered_kept t m in cc
  numbered_kept (forall r t) (k, m) = let p = front_number ls ls' r l k in let q = numbered_kept t m in cc
  numbered_kept (may i t) k = ap (may i) (numbered_kept t k)
  numbered_kept (must i t) k = ap (must i) (numbered_kept t k)

pub known_at : {cs cs' ls ls' : List (List ℕ)} → cs ≡ cs' → ls ≡ ls' → (t : Spelled) → Known cs ls t → Known cs' ls' t
known_at {cs} {cs'} {ls} {ls'} p q t k = subst (λ xs. Known xs ls' t) p (subst (λ ys. Known cs ys t) q k)

-- two terms, one after the other
pair_known : (cs ls : List (List ℕ)) (t u : Spelled) → Known (with_names cs (class_names t)) (with_names ls (link_names t)) t → Known (with_names (with_names cs (class_names t)) (class_names u)) (with_names (with_names ls (link_names t)) (link_names u)) u → Known (with_names cs (class_names t ++ class_names u)) (with_names ls (link_names t ++ link_names u)) t × Known (with_names cs (class_names t ++ class_names u)) (with_names ls (link_names t ++ link_names u)) u
pair_known cs ls t u p q =
    let c = sym (all_append cs (class_names t) (class_names u)) in
    let l = sym (all_append ls (link_names t) (link_names u)) in
    let xs = with_names cs (class_names t) in
    let ys = with_names ls (link_names t) in
    let kept = known_kept xs (with_names xs (class_names u)) ys (with_names ys (link_names u)) (all_front xs (class_names u)) (all_front ys (link_names u)) t p in
    (known_at c l t kept, known_at c l u q)

-- a link, then a term
link_then : (ls : List (List ℕ)) (r : List ℕ) (ws : List (List ℕ)) → number (with_names ls (r ∷ ws)) r < length (with_names ls (r ∷ ws))
link_then ls r ws =
    let xs = with_name ls r in
    let here = with_known ls r in
    let same = front_number xs (with_names xs ws) r (all_front xs ws) here in
    let long = front_long xs (with_names xs ws) (all_front xs ws) in
    omega arith

-- the names of a term are known where they were put in
pub all_known : (cs ls : List (List ℕ)) (t : Spelled) → Known (with_names cs (class_names t)) (with_names ls (link_names t)) t
all_known cs ls top = tt
all_known cs ls bottom = tt
all_known cs ls (class w) = with_known cs w
all_known cs ls (neg t) = all_known cs ls t
all_known cs ls (and t u) = pair_known cs ls t u (all_known cs ls t) (all_known (with_names cs (class_names t)) (with_names ls (link_names t)) u)
all_known cs ls (or t u) = pair_known cs ls t u (all_known cs ls t) (all_known (with_names cs (class_names t)) (with_names ls (link_names t)) u)
all_known cs ls (exists r t) = (link_then ls r (link_names t), all_known cs (with_name ls r) t)
all_known cs ls (forall r t) = (link_then ls r (link_names t), all_known cs (with_name ls r) t)
all_known cs ls (may i t) = all_known cs ls t
all_known cs ls (must i t) = all_known cs ls t

module _ (cs ls : List (List ℕ)) where
  pub spelled_numbered : (t : Spelled) → Known cs ls t → spelled cs ls (numbered cs ls t) ≡ t
  spelled_numbered top k = refl
  spelled_numbered bottom k = refl
  spelled_numbered (class w) k = ap class (number_at cs w k)
  spelled_numbered (neg t) k = ap neg (spelled_numbered t k)
  spelled_numbered (and t u) (k, m) = let p = spelled_numbered t k in let q = spelled_numbered u m in cc
  spelled_numbered (or t u) (k, m) = let p = spelled_numbered t k in let q = spelled_numbered u m in cc
  spelled_numbered (exists r t) (k, m) = let p = number_at ls r k in let q = spelled_numbered t m in cc
  spelled_numbered (forall r t) (k, m) = let p = number_at ls r k in let q = spelled_numbered t m in cc
  spelled_numbered (may i t) k = ap (may i) (spelled_numbered t k)
  spelled_numbered (must i t) k = ap (must i) (spelled_numbered t k)
