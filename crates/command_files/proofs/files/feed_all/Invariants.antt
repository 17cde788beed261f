use Rattle.std.proofs.Common.{◌≡◌, ◌+◌, ◌-◌, ◌≤◌, length, vec_len}
use Rattle.outside_io.specs.Trace.{going as goes_on}
use Rattle.command_files.specs.Reading.{GivesMore}
use Rattle.command_files.proofs.files.feed_all.Given as goal

-- so many bytes were given, and they were taken
abbrev pub invariant-pieces : goal.invariant-pieces
invariant-pieces g l =
    record {
      size : l.total ≡ length (g.S.Source.reading l.source).given;
      within : l.total ≤ l.limit + 1;
      buffer : vec_len l.buffer ≡ 65536;
      gives : GivesMore (g.S.Source.left l.initial.source) (g.S.Source.left l.source) (g.S.Source.reading l.initial.source) (g.S.Source.reading l.source);
      later : g.S.Source.faults l.initial.source ≤ g.S.Source.faults l.source;
      going : (g.S.Source.reading l.source).stage ≡ goes_on;
      loan : g.S.Source.loan l.source ≡ g.S.Source.loan l.initial.source;
      takes : g.T.Taker.takes l.beside l.initial.taker l.taker (g.S.Source.reading l.source).given;
    }

abbrev pub decreases-pieces : goal.decreases-pieces
decreases-pieces g l = l.limit + 1 - l.total
