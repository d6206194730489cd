-- What proofreading a register promises. Assumes nothing.
use Rattle.std.specs.Prelude.{◌≡◌, ℕ, ◌<◌, ◌≤◌, ◌⊎◌, List, ◌++◌, length, drop, Result, MatchResult}
use Rattle.names.specs.declared.refusals.Refusal.{Refusal}
use Rattle.names.specs.declared.refusals.Refusal.TheVariants.{ShortBuffer, NoMemory}
use Rattle.register.specs.Report.{report, wanted}
use Rattle.register.specs.declared.tallies.Proofread.{Proofread}

-- The buffer `before` is long enough, and `after` holds the report and then what it held.
pub record Written (file before : List ℕ) (p : Proofread) (after : List ℕ) : Type 0 where
  pub room : wanted file ≤ length before
  pub len : p.len ≡ length (report file).text
  pub text : after ≡ (report file).text ++ drop p.len before
  pub tally : p.tally ≡ (report file).tally

-- The buffer is too short, or memory was wanting; it keeps every byte.
pub record Unwritten (file before : List ℕ) (e : Refusal) (after : List ℕ) : Type 0 where
  pub why : ((e ≡ ShortBuffer) × (length before < wanted file)) ⊎ ((e ≡ NoMemory) × (wanted file ≤ length before))
  pub kept : after ≡ before

abbrev pub Proofreads : List ℕ → List ℕ → Result Proofread Refusal → List ℕ → Type 0
Proofreads file before r after = MatchResult r (λ p. Written file before p after) (λ e. Unwritten file before e after)
