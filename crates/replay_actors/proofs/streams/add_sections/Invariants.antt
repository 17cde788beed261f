use Rattle.std.proofs.Common.{◌≡◌, ◌+◌, ◌++◌, ℕ, List, drop}
use Rattle.dispatch_core.specs.Recorded.{effects_of}
use Rattle.stream_text.specs.StreamsHistory.{sections_of}
use Rattle.replay_actors.specs.Texts.{names_of}
use Rattle.replay_actors.proofs.streams.add_sections.Given as goal

-- the sections so far, and then those that are left, are all; and the text only grew
abbrev pub invariant-loop-place : goal.invariant-loop-place
invariant-loop-place l =
    (l.out.items ++ sections_of (l.place + 1) (names_of (drop l.place l.channels)) (effects_of l.core)
    ≡ l.initial.out.items ++ sections_of 1 (names_of l.channels) (effects_of l.core))
    × ((more : List ℕ) × (l.out.items ≡ l.initial.out.items ++ more))
