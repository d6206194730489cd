-- What adding to a table answers and leaves, as the book tells it. Assumes nothing.
use Rattle.std.proofs.Common.{◌≡◌, ℕ, true, false, List, map, Some, None, arith}
use Rattle.std.proofs.lemmas.Grind.{common_steps}
use Rattle.std.proofs.lemmas.List.{length-map, map_push}
use Rattle.distinct.specs.Numbering.{added, entered}
use Rattle.tables.specs.Book.{keep, lacks, placed}

module _ (limit : ℕ) (xs : List (List ℕ)) (w : List ℕ) where
  pub added_some : (i : ℕ) → Some i ≡ added xs limit w → (lacks limit xs w ≡ false) × (i ≡ placed limit xs w)
  added_some i e = (grind (arith, common_steps), grind (arith, common_steps))

  pub added_none : None ≡ added xs limit w → (lacks limit xs w ≡ true) × (0 ≡ placed limit xs w)
  added_none e = (grind (arith, common_steps), grind (arith, common_steps))

  -- no place: nothing changes
  pub keep_none : added xs limit w ≡ None → keep limit xs w xs w ≡ xs
  keep_none e = grind (arith, common_steps)

-- what the entries show
pub entered_shows : {X : Type 0} (shown : X → List ℕ) (limit : ℕ) (xs : List X) (x : X) → map shown (entered shown xs limit x) ≡ keep limit (map shown xs) (shown x) (map shown xs) (shown x)
entered_shows shown limit xs x = let a = length-map xs shown in let b = map_push shown xs x in grind (arith, common_steps)
