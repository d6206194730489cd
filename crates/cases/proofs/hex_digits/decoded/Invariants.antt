use Rattle.std.proofs.Common.{◌≡◌, ◌++◌}
use Rattle.std.specs.Slice.Iter.{chunks_exact_rest, chunks_exact_size}
use Rattle.cases.specs.Hex.{bytes_of}
use Rattle.cases.proofs.hex_digits.decoded.Given as goal

abbrev pub invariant-loop-pair : goal.invariant-loop-pair
invariant-loop-pair l = (l.bytes.items ++ bytes_of (chunks_exact_rest l.pair-iterator) ≡ bytes_of l.text)
    × (chunks_exact_size l.pair-iterator ≡ 2)
