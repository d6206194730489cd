use Rattle.std.proofs.Common.{◌≡◌, ℕ, ◌<◌, ◌≤◌, false, ◌||◌, get_or}
use Rattle.glossary.proofs.records.ClassSet.join.Given as goal

abbrev pub invariant-loop-c : goal.invariant-loop-c
invariant-loop-c l =
    record {
      joined : (f : ℕ) → f < l.c → get_or l.flag-items f false ≡ (get_or l.fn.self.flags f false || get_or l.other.flags f false);
      rest : (f : ℕ) → l.c ≤ f → get_or l.flag-items f false ≡ get_or l.fn.self.flags f false;
    }
