-- The pieces of a text cut at each byte b, without an empty one behind a last b. Assumes nothing.
use Rattle.std.specs.Prelude.{ℕ, cond, List, [], ◌∷◌, ◌==◌}
use Rattle.std.specs.List.{onto_first}
use Rattle.cut.specs.declared.pieces.Pieces.{Pieces}

-- what stands before each b, and what stands behind the last one where that is not empty
abbrev pub ended : ℕ → List ℕ → List (List ℕ)
ended b [] = []
ended b (x ∷ xs) = cond (x == b) ([] ∷ ended b xs) (onto_first x (ended b xs))

-- the pieces that are still to come
abbrev pub left : Pieces → List (List ℕ)
left s = ended s.cut s.rest.now
