-- How a tally is printed: each count with what it counts. Assumes nothing.
use Rattle.std.specs.Prelude.{ℕ, List, ◌++◌, codes, decimal}
use Rattle.register.specs.declared.tallies.Tally.{Tally}

abbrev pub tally_text : Tally → List ℕ
tally_text t = decimal t.glosses ++ (codes " glosses, " ++ (decimal t.statements ++ (codes " statements, " ++ (decimal t.ties ++ (codes " ties, " ++ (decimal t.questions ++ codes " questions"))))))
