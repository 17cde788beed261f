use Rattle.std.proofs.Common.{◌≡◌, ℕ, [], vec_len}
use Rattle.schedule.specs.Lines.{lines_at}
use Rattle.schedule.proofs.stream.empty_streams.Given as goal

-- the streams so far are empty
abbrev pub invariant-loop : goal.invariant-loop
invariant-loop l =
    record {
      len : vec_len l.streams ≡ l.counter;
      empty : (c : ℕ) → lines_at l.streams.items c ≡ [];
    }
