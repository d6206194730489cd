-- Which words are operators: the operator's bytes and no other. Assumes nothing.
use Rattle.std.proofs.Common.{◌≡◌, ℕ, ◌+◌, ◌-◌, ◌≤◌, true, cond, ◌&&◌, eqb, leb, List, [], ◌∷◌, Some, None, Option, sym, refl, ap, ◌∙◌, subst, ⊎_elim, arith}
use Rattle.std.proofs.lemmas.Bool.{cases_Bool, cond-true, cond-false, and_parts, leb-true, eqb-true}
use Rattle.std.proofs.lemmas.Bool.Decides.{nat_tests}
use Rattle.names.specs.Name.{opens}
use Rattle.terms.specs.Word.{Word, operator, reader, name, Sign, bare, modal, letter, sign, completed, meant}
use Rattle.terms.specs.declared.words.Join.TheVariants.{And, Or}
use Rattle.terms.specs.declared.words.Modality.{Modality}
use Rattle.terms.specs.declared.words.Modality.TheVariants.{May, Must}
use Rattle.terms.specs.declared.words.Operator.{Operator}
use Rattle.terms.specs.declared.words.Operator.TheVariants.{Top, Bottom, Not, Join as Joining, Quantifier as Quantifying}
use Rattle.terms.specs.declared.words.Quantifier.TheVariants.{Exists, Forall}

-- the byte of each operator
abbrev pub symbol : Operator → ℕ
symbol Top = 42
symbol Bottom = 33
symbol Not = 45
symbol (Joining And) = 38
symbol (Joining Or) = 124
symbol (Quantifying Exists) = 43
symbol (Quantifying Forall) = 61

abbrev pub modal_symbol : Modality → ℕ
modal_symbol May = 60
modal_symbol Must = 91

-- what a sign says of its byte
abbrev Signed : ℕ → Sign → Type 0
Signed b (bare op) = b ≡ symbol op
Signed b (modal m) = b ≡ modal_symbol m
Signed b letter = Unit {0}

-- one test of the table
tested : (b n : ℕ) (s r : Sign) → (b ≡ n → Signed b s) → Signed b r → Signed b (cond (eqb b n) s r)
tested b n s r yes' no' =
    ⊎_elim
    (λ t. subst (Signed b) (sym (cond-true (eqb b n) s r t)) (yes' (eqb-true b n t)))
    (λ f. subst (Signed b) (sym (cond-false (eqb b n) s r f)) no')
    (cases_Bool (eqb b n))

signed : (b : ℕ) → Signed b (sign b)
signed b =
    tested b 42 (bare Top) _ (λ e. e) (tested b 33 (bare Bottom) _ (λ e. e) (tested b 45 (bare Not) _ (λ e. e) (tested b 38 (bare (Joining And)) _ (λ e. e) (tested b 124 (bare (Joining Or)) _ (λ e. e) (tested b 43 (bare (Quantifying Exists)) _ (λ e. e) (tested b 61 (bare (Quantifying Forall)) _ (λ e. e) (tested b 60 (modal May) _ (λ e. e) (tested b 91 (modal Must) _ (λ e. e) tt))))))))

-- what a word means, by its bytes
abbrev pub Spells : List ℕ → Word → Type 0
Spells w (operator op) = w ≡ symbol op ∷ []
Spells w (reader m i) = (w ≡ modal_symbol m ∷ (48 + i) ∷ []) × (1 ≤ i) × (i ≤ 8)
Spells w (name n) = n ≡ w

abbrev MaySpell : List ℕ → Option Word → Type 0
MaySpell w None = Unit {0}
MaySpell w (Some x) = Spells w x

completes : (s : Sign) (b : ℕ) (bs : List ℕ) → Signed b s → MaySpell (b ∷ bs) (completed s b bs)
completes (bare op) b [] e = ap (λ x. x ∷ []) e
completes (bare op) b (c ∷ cs) e = tt
completes (modal m) b [] e = tt
completes (modal m) b (d ∷ []) e =
    ⊎_elim
    (λ t. let p = and_parts (leb 49 d) (leb d 56) t in
    let low = leb-true 49 d p.0 in
    let high = leb-true d 56 p.1 in
    let back : d ≡ 48 + (d - 48) = omega arith in
    subst (MaySpell (b ∷ d ∷ [])) (sym (cond-true (leb 49 d && leb d 56) (Some (reader m (d - 48))) None t)) (ap (λ x. x ∷ d ∷ []) e ∙ ap (λ x. modal_symbol m ∷ x ∷ []) back, omega arith, omega arith))
    (λ f. subst (MaySpell (b ∷ d ∷ [])) (sym (cond-false (leb 49 d && leb d 56) (Some (reader m (d - 48))) None f)) tt)
    (cases_Bool (leb 49 d && leb d 56))
completes (modal m) b (d ∷ c ∷ cs) e = tt
completes letter b bs e = refl

may_spell : (w : List ℕ) → MaySpell w (meant w)
may_spell [] = refl
may_spell (b ∷ bs) = completes (sign b) b bs (signed b)

pub spells : (w : List ℕ) (x : Word) → meant w ≡ Some x → Spells w x
spells w x e = subst (MaySpell w) e (may_spell w)

-- and the other way round
pub means_operator : (op : Operator) → meant (symbol op ∷ []) ≡ Some (operator op)
means_operator Top = refl
means_operator Bottom = refl
means_operator Not = refl
means_operator (Joining And) = refl
means_operator (Joining Or) = refl
means_operator (Quantifying Exists) = refl
means_operator (Quantifying Forall) = refl

digit : (m : Modality) (b i : ℕ) → 1 ≤ i → i ≤ 8 → completed (modal m) b ((48 + i) ∷ []) ≡ Some (reader m i)
digit m b i l h = grind (arith, nat_tests)

pub means_reader : (m : Modality) (i : ℕ) → 1 ≤ i → i ≤ 8 → meant (modal_symbol m ∷ (48 + i) ∷ []) ≡ Some (reader m i)
means_reader May i l h = digit May 60 i l h
means_reader Must i l h = digit Must 91 i l h

open_letter : (b : ℕ) → opens b ≡ true → sign b ≡ letter
open_letter b o = grind (arith, nat_tests)

pub means_name : (b : ℕ) (bs : List ℕ) → opens b ≡ true → meant (b ∷ bs) ≡ Some (name (b ∷ bs))
means_name b bs o = ap (λ s. completed s b bs) (open_letter b o)
