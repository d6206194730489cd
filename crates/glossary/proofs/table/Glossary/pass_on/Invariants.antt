use Rattle.std.proofs.Common.{◌≡◌, ℕ, ◌<◌, ◌≤◌, ◌&&◌, ◌||◌, ◌==◌, get_or, vec_items}
use Rattle.glossary.specs.Records.{has_at, plain, gloss_at, refers_at}
use Rattle.glossary.proofs.table.Glossary.pass_on.Given as goal

abbrev pub invariant-loop-e : goal.invariant-loop-e
invariant-loop-e l =
    let rs = vec_items l.fn.self.records in
    record {
      glosses : (k : ℕ) → gloss_at l.record-items k ≡ gloss_at rs k;
      passed : (k f : ℕ) → k < l.e → refers_at l.record-items k f ≡ (refers_at rs k f || ((k == l.c || refers_at rs k l.c) && has_at l.reach f));
      rest : (k : ℕ) → l.e ≤ k → get_or l.record-items k plain ≡ get_or rs k plain;
    }
