-- What a case that agrees shows. Assumes nothing but what reading a term and decoding promise.
use Rattle.std.specs.Prelude.{ℕ, ◌+◌, ◌<◌, ◌≤◌, ◌≡◌, ◌≢◌, ◌⊎◌, List, ◌∷◌, ◌++◌, length, slice_index, take, drop, codes, decimal}
use Rattle.cases.specs.Hex.{bytes_of}
use Rattle.names.specs.Refusal.{number, place_of}
use Rattle.names.specs.declared.refusals.Refusal.{Refusal}
use Rattle.names.specs.declared.refusals.Refusal.TheVariants.{NoMemory}
use Rattle.terms.specs.Term.{Spelled}
use Rattle.terms.specs.Told.{IsRead, IsRefused}

-- The line's first tab stands behind n bytes, or none does and the line has n.
pub record IsField (line : List ℕ) (n : ℕ) : Type 0 where
  pub within : n ≤ length line
  pub before : (k : ℕ) → k < n → slice_index line k ≢ 9
  pub found : n < length line → slice_index line n ≡ 9

-- A line shows of its case what its kind does: of the bytes that stand in hexadecimal before the first tab, and of the
-- text behind it.
abbrev pub IsShown : (List ℕ → List ℕ → Type 0) → List ℕ → Type 0
IsShown P line = (n : ℕ) × IsField line n × P (bytes_of (take n line)) (drop (n + 1) line)

-- `ok` is expected and the bytes read as a term, or the refusal that reading tells is.
abbrev pub TermShows : List ℕ → List ℕ → Type 0
TermShows given expected =
    ((expected ≡ codes "ok") × ((t : Spelled) × IsRead given t))
    ⊎ ((e : Refusal) × ((e ≡ NoMemory) ⊎ IsRefused given e) × (expected ≡ decimal (number e) ++ (32 ∷ decimal (place_of e))))
