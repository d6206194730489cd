use Rattle.std.proofs.Common.{◌≡◌, ℕ, suc, ◌≤◌, List, [], ◌∷◌, map, length, Some, None, vec_items, refl, arith}
use Rattle.std.proofs.lemmas.Bool.{cond_both, ltb-false}
use Rattle.std.proofs.lemmas.List.{length-map}
use Rattle.std.specs.Option.{unwrap_or}
use Rattle.std.specs.Str.{bytes_eq}
use Rattle.distinct.specs.Numbering.{number, known, place}
use Rattle.terms.specs.Nodes.{name_bytes}
use Rattle.glossary.proofs.asking.number_of.Goals as goal

number_most : (xs : List (List ℕ)) (x : List ℕ) → number xs x ≤ length xs
number_most [] x = omega arith
number_most (y ∷ ys) x =
    let h = number_most ys x in
    cond_both (bytes_eq y x) 0 (suc (number ys x)) (λ n. n ≤ length (y ∷ ys)) (λ e. omega arith) (λ e. omega arith)

place_or : (xs : List (List ℕ)) (x : List ℕ) → unwrap_or (place xs x) (length xs) ≡ number xs x
place_or xs x =
    let h = number_most xs x in
    cond_both (known xs x) (Some (number xs x)) None (λ o. unwrap_or o (length xs) ≡ number xs x)
    (λ e. refl)
    (λ e. omega (arith, ltb-false (number xs x) (length xs) e))

pub returns : goal.returns
returns c =
    let e = place_or (map name_bytes (vec_items c.args.classes.now.items)) (name_bytes c.args.class.now) in
    grind (arith, length-map, e)
