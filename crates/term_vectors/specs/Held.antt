-- What a case of a term of any length shows that agrees. Assumes nothing but what reading a term promises.
use Rattle.std.specs.Prelude.{ℕ, ◌<◌, ◌≡◌, ◌⊎◌, List, codes, length}
use Rattle.cases.specs.Case.{TermShows}
use Rattle.terms.specs.Term.{Spelled}
use Rattle.terms.specs.Told.{IsRead}

-- What it shows of a term that can be written back, or `no room` is expected, and the bytes read as a longer one.
abbrev pub AnyTermShows : List ℕ → List ℕ → Type 0
AnyTermShows given expected = TermShows given expected
    ⊎ ((expected ≡ codes "no room") × (16384 < length given) × ((t : Spelled) × IsRead given t))
