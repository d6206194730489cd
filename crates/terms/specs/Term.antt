-- Terms as trees, over any kind of name, and how a term is written. Assumes nothing.
-- The language is that of ALC with one pair of modal operators for each reader (ALCK_m).
use Rattle.std.specs.Prelude.{ℕ, suc, ◌+◌, ◌≤◌, max, List, [], ◌∷◌, ◌++◌}
use Rattle.names.specs.Name.{Legal}

pub data Term (N : Type 0) : Type 0 where
  top : Term N
  bottom : Term N
  -- a class, by its name
  class : N → Term N
  neg : Term N → Term N
  and : Term N → Term N → Term N
  or : Term N → Term N → Term N
  -- some item linked so, and every item linked so
  exists : N → Term N → Term N
  forall : N → Term N → Term N
  -- in some reading that the reader admits, and in every one
  may : ℕ → Term N → Term N
  must : ℕ → Term N → Term N

-- A term whose names are their bytes: what a line holds.
abbrev pub Spelled : Type 0
Spelled = Term (List ℕ)

-- Operator first, words parted by one space (byte 32).
abbrev pub written : Spelled → List ℕ
written top = 42 ∷ []
written bottom = 33 ∷ []
written (class n) = n
written (neg t) = 45 ∷ 32 ∷ written t
written (and t u) = 38 ∷ 32 ∷ (written t ++ 32 ∷ written u)
written (or t u) = 124 ∷ 32 ∷ (written t ++ 32 ∷ written u)
written (exists r t) = 43 ∷ 32 ∷ (r ++ 32 ∷ written t)
written (forall r t) = 61 ∷ 32 ∷ (r ++ 32 ∷ written t)
written (may i t) = 60 ∷ (48 + i) ∷ 32 ∷ written t
written (must i t) = 91 ∷ (48 + i) ∷ 32 ∷ written t

-- The outermost word is 1 deep, and a link's word as deep as its operator.
abbrev pub depth : {N : Type 0} → Term N → ℕ
depth top = 1
depth bottom = 1
depth (class n) = 1
depth (neg t) = suc (depth t)
depth (and t u) = suc (max (depth t) (depth u))
depth (or t u) = suc (max (depth t) (depth u))
depth (exists r t) = suc (depth t)
depth (forall r t) = suc (depth t)
depth (may i t) = suc (depth t)
depth (must i t) = suc (depth t)

-- Each name is one, and each reader's number is 1 to 8.
abbrev pub Valid : Spelled → Type 0
Valid top = Unit {0}
Valid bottom = Unit {0}
Valid (class n) = Legal n
Valid (neg t) = Valid t
Valid (and t u) = Valid t × Valid u
Valid (or t u) = Valid t × Valid u
Valid (exists r t) = Legal r × Valid t
Valid (forall r t) = Legal r × Valid t
Valid (may i t) = (1 ≤ i) × (i ≤ 8) × Valid t
Valid (must i t) = (1 ≤ i) × (i ≤ 8) × Valid t

-- A term that can be read.
pub record Readable (t : Spelled) : Type 0 where
  pub valid : Valid t
  pub shallow : depth t ≤ 32
