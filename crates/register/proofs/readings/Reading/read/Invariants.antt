use Rattle.std.proofs.Common.{◌≡◌, ◌+◌, ◌≤◌, length}
use Rattle.std.specs.Iterator.Adapters.{enumerate_source, enumerate_count}
use Rattle.lines.specs.Pieces.{pieces}
use Rattle.lines.specs.Unread.{unread}
use Rattle.lines.specs.declared.letters.Stage.TheVariants.{Start}
use Rattle.register.specs.Reading.{progress_of, text_of, Few}
use Rattle.register.specs.Report.{before, report_from, report}
use Rattle.register.proofs.readings.Reading.read.Given as goal

-- n is the next line's number
abbrev pub invariant-loop-i : goal.invariant-loop-i
invariant-loop-i l =
    let n = enumerate_count l.i-iterator + 1 in
    let rest = unread (enumerate_source l.i-iterator) in
    record {
      can : (goal.iterator-loop-i).can_next l.i-iterator;
      finite : (goal.iterator-loop-i).is_finite l.i-iterator;
      so_far : report l.file ≡ before (text_of l.self) (report_from n (pieces 10 rest) (progress_of l.self));
      few : Few n l.self.tally;
      short : n + length rest ≤ 16385;
      begins : l.self.stage ≡ Start → n ≡ 1;
    }
