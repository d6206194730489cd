-- What a register's case that agrees shows. Assumes nothing but what proofreading and decoding promise.
use Rattle.std.specs.Prelude.{ℕ, List, ◌≡◌}
use Rattle.cases.specs.Hex.{bytes_of}
use Rattle.register.specs.Report.{report}

-- What is expected is, in hexadecimal, the report on the register.
abbrev pub IsReported : List ℕ → List ℕ → Type 0
IsReported file expected = bytes_of expected ≡ (report file).text
