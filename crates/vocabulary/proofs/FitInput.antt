-- An entry whose input is fit is its steps. Assumes nothing.
use Rattle.std.proofs.Common.{◌≡◌, ℕ, Bool, true, not, cond, List, is_some, Some, None, Ok, Err, Option, refl, sym, ap, ◌∙◌, arith}
use Rattle.distinct.specs.Numbering.{number}
use Rattle.names.specs.Name.{flaw, legal}
use Rattle.names.specs.Refusal.{at}
use Rattle.names.specs.declared.refusals.Refusal.TheVariants.{LinesFull}
use Rattle.terms.specs.Parse.{named, reading}
use Rattle.terms.specs.Term.{Spelled}
use Rattle.vocabulary.specs.Entries.{gloss_steps, state_steps, tie_steps}
use Rattle.vocabulary.specs.Lexicon.{Lexicon, term_of}
use Rattle.vocabulary.specs.Placing.{thus, in_field, name_in, term_in, place_class, place_item, place_term, gloss_words, state_words, tie_words}

pub gloss_read : (k : Lexicon) (w s : List ℕ) (t : Spelled) → reading s ≡ Ok t → thus (term_in 3 s) (λ u. gloss_words k w u) ≡ gloss_steps k w s
gloss_read k w s t e =
    ap (λ r. thus (in_field 3 r) (λ u. gloss_words k w u)) e
    ∙ sym (ap (λ r. thus (place_class 2 w k) (λ i. thus (in_field 3 r) (λ u. thus (place_term u i) (λ j. Ok (record { words = j; class = number j.classes w; term = term_of j u }))))) e)

pub statement_read : (k : Lexicon) (v s a : List ℕ) (t : Spelled) (room : Bool) → name_in 2 v ≡ Ok a → reading s ≡ Ok t → state_words k v s room ≡ state_steps k a s room
statement_read k v s a t room n e =
    let ends = λ (b : List ℕ) (u : Spelled) (i : Lexicon). thus (place_term u i) (λ j. cond room (Ok (record { words = j; item = number j.items b; term = term_of j u })) (Err (at 1 LinesFull))) in
    ap (λ r. thus r (λ b. thus (term_in 3 s) (λ u. thus (place_item 2 b k) (ends b u)))) n
    ∙ ap (λ r. thus (in_field 3 r) (λ u. thus (place_item 2 a k) (ends a u))) e
    ∙ sym (ap (λ r. thus (place_item 2 a k) (λ i. thus (in_field 3 r) (λ u. ends a u i))) e)

pub tie_read : (k : Lexicon) (x y z l a b : List ℕ) (room : Bool) → name_in 2 x ≡ Ok l → name_in 3 y ≡ Ok a → name_in 4 z ≡ Ok b → tie_words k x y z room ≡ tie_steps k l a b room
tie_read k x y z l a b room p q r =
    ap (λ e. thus e (λ l. thus (name_in 3 y) (λ a. thus (name_in 4 z) (λ b. tie_steps k l a b room)))) p
    ∙ ap (λ e. thus e (λ a. thus (name_in 4 z) (λ b. tie_steps k l a b room))) q
    ∙ ap (λ e. thus e (λ b. tie_steps k l a b room)) r

-- a name that is read is the word itself

named_is : (f : ℕ) (w v : List ℕ) (o : Option ℕ) → in_field f (named 0 w o) ≡ Ok v → (v ≡ w) × (o ≡ None)
named_is f w v None e = (cc, refl)
named_is f w v (Some i) e = let z : ◌≡◌ {A = ℕ} 0 1 = cc in absurd (omega arith)

pub name_is : (f : ℕ) (w v : List ℕ) → name_in f w ≡ Ok v → (v ≡ w) × (legal w ≡ true)
name_is f w v e = let (same, none) = named_is f w v (flaw 0 w) e in (same, ap (λ o. not (is_some o)) none)
