use Rattle.std.proofs.Common.{◌≡◌, ◌++◌, ℕ, List, drop}
use Rattle.stream_text.specs.StreamsHistory.{anr_lines}
use Rattle.replay_actors.proofs.streams.add_anrs.Given as goal

-- the ANRs so far, and then those that are left, are all; and the text only grew
abbrev pub invariant-loop-anr : goal.invariant-loop-anr
invariant-loop-anr l =
    (l.out.items ++ anr_lines (drop l.anr-index l.anrs) ≡ l.initial.out.items ++ anr_lines l.anrs)
    × ((more : List ℕ) × (l.out.items ≡ l.initial.out.items ++ more))
