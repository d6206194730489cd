-- A number stands in a list. Assumes nothing.
use Rattle.std.specs.Prelude.{ℕ, Bool, List, nat_eq}
use Rattle.std.specs.List.{list_any}

abbrev pub is_in : ℕ → List ℕ → Bool
is_in d ds = list_any (λ e. nat_eq e d) ds
