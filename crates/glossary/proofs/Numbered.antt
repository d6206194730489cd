-- The classes of a term over numbers are the numbers of its class names. Assumes nothing.
use Rattle.std.proofs.Common.{◌≡◌, ℕ, List, ◌++◌, map, sym, refl, ap, ◌∙◌}
use Rattle.std.proofs.lemmas.List.{map-append}
use Rattle.distinct.specs.Numbering.{number}
use Rattle.glossary.specs.Refers.{classes_of}
use Rattle.tables.specs.Vocabulary.{numbered, class_names}
use Rattle.terms.specs.Term.{Spelled, top, bottom, class, neg, and, or, exists, forall, may, must}

module _ (cs ls : List (List ℕ)) where
  both : (t u : Spelled) {xs ys : List ℕ} → xs ≡ map (number cs) (class_names t) → ys ≡ map (number cs) (class_names u) → xs ++ ys ≡ map (number cs) (class_names t ++ class_names u)
  both t u {xs} {ys} p q =
      ap (λ zs. zs ++ ys) p ∙ ap (λ zs. map (number cs) (class_names t) ++ zs) q ∙ sym (map-append (number cs) (class_names t) (class_names u))

  pub numbered_classes : (t : Spelled) → classes_of (numbered cs ls t) ≡ map (number cs) (class_names t)
  numbered_classes top = refl
  numbered_classes bottom = refl
  numbered_classes (class w) = refl
  numbered_classes (neg t) = numbered_classes t
  numbered_classes (and t u) = both t u (numbered_classes t) (numbered_classes u)
  numbered_classes (or t u) = both t u (numbered_classes t) (numbered_classes u)
  numbered_classes (exists r t) = numbered_classes t
  numbered_classes (forall r t) = numbered_classes t
  numbered_classes (may i t) = numbered_classes t
  numbered_classes (must i t) = numbered_classes t
