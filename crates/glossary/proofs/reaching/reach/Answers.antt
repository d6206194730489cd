use Rattle.std.proofs.Common.{◌≡◌, ℕ, ◌<◌, Bool, false, ◌&&◌, ◌||◌, eqb, ltb, List, map, length, vec_items, ap, ◌∙◌, arith}
use Rattle.std.proofs.lemmas.Bool.{ltb-true, eqb-true, lt-ltb}
use Rattle.std.proofs.lemmas.List.{length-map}
use Rattle.std.specs.List.{FoldsTo, list_any}
use Rattle.distinct.specs.Numbering.{number}
use Rattle.glossary.proofs.Anys.{any_same}
use Rattle.glossary.proofs.Visits.{raised}
use Rattle.glossary.specs.Asked.{reaches}
use Rattle.glossary.specs.Records.{has_at, refers_at}
use Rattle.glossary.specs.Sees.{ReacherSees, reacher_raises}
use Rattle.glossary.specs.declared.reaching.Reacher.{Reacher}
use Rattle.terms.specs.Nodes.{name_bytes}
use Rattle.glossary.proofs.reaching.reach.Goals as goal

-- a place among the 64 has its flag
placed : (n m f : ℕ) (b : Bool) → (n < m → n ≡ f → n < 64) → (ltb n m && ((eqb n f && ltb n 64) || b)) ≡ (ltb n m && (eqb n f || b))
placed n m f b h = grind (arith, ltb-true, eqb-true, lt-ltb)

abbrev names : Reacher → List (List ℕ)
names s = map name_bytes (vec_items s.classes.now.items)

gathered : (ws : List (List ℕ)) (s t : Reacher) (f : ℕ) → FoldsTo ReacherSees s ws t → has_at s.found f ≡ false → ((n : ℕ) → n < length (names s) → n ≡ f → n < 64) → has_at t.found f ≡ list_any (λ v. reaches (names s) (vec_items s.glossary.now.records) v f) ws
gathered ws s t f p e h =
    raised ReacherSees (λ s. has_at s.found f) (reacher_raises f) (λ s w t p. (p.asked f, p.found f)) ws s t p
    ∙ ap (λ b. b || list_any (reacher_raises f s) ws) e
    ∙ any_same (reacher_raises f s) (λ v. reaches (names s) (vec_items s.glossary.now.records) v f) ws
    (λ v. placed (number (names s) v) (length (names s)) f (refers_at (vec_items s.glossary.now.records) (number (names s) v) f) (h (number (names s) v)))

pub returns : goal.returns
returns c =
    let x = c.in_ok-visit.ensures in
    let few = length-map (vec_items c.args.classes.now.items) name_bytes in
    (x.0, x.1, (λ f l. gathered _ _ _ f x.2 (c.new.ensures f) (λ n k e. omega arith)), (λ l f. gathered _ _ _ f x.2 (c.new.ensures f) (λ n k e. omega arith)))
