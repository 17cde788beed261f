use Rattle.std.proofs.Common.{◌≡◌, ◌+◌, ◌-◌, ◌≤◌, length, vec_len}
use Rattle.outside_io.specs.Trace.{going as goes_on}
use Rattle.command_files.specs.Reading.{GivesMore}
use Rattle.command_files.proofs.files.read_all.Given as goal

-- the bytes so far are those that were given
abbrev pub invariant-pieces : goal.invariant-pieces
invariant-pieces g l =
    record {
      same : (g.S.Source.reading l.source).given ≡ l.bytes.items;
      within : length l.bytes.items ≤ l.limit + 1;
      buffer : vec_len l.buffer ≡ 65536;
      gives : GivesMore (g.S.Source.left l.initial.source) (g.S.Source.left l.source) (g.S.Source.reading l.initial.source) (g.S.Source.reading l.source);
      later : g.S.Source.faults l.initial.source ≤ g.S.Source.faults l.source;
      going : (g.S.Source.reading l.source).stage ≡ goes_on;
      loan : g.S.Source.loan l.source ≡ g.S.Source.loan l.initial.source;
    }

abbrev pub decreases-pieces : goal.decreases-pieces
decreases-pieces g l = l.limit + 1 - vec_len l.bytes
