-- The streams text of a history: what each channel of a session was sent, and who was reported unresponsive.
use Rattle.std.specs.Prelude.{ℕ, ◌+◌, List, [], ◌∷◌, ◌++◌, reverse, false}
use Rattle.std.specs.Option.{unwrap_or}
use Rattle.dispatch_calls.specs.declared.counts.Counts.{Counts}
use Rattle.dispatch_calls.specs.declared.counts.Anr.{Anr}
use Rattle.dispatch_history.specs.Effect.{Effect, stream}
use Rattle.dispatch_history.specs.Due.{counts, anrs}
use Rattle.stream_text.specs.Spelling.{channel_section, anr_line}

-- nothing was sent on a channel that was never opened
abbrev pub unopened : Counts
unopened = record { sent = 0; received = 0; finished = 0; published = 0; live = false }

-- the sections of channels with these names, the first of which has number k
abbrev pub sections_of : ℕ → List (List ℕ) → List Effect → List ℕ
sections_of k [] es = []
sections_of k (name ∷ names) es = channel_section k name (reverse (stream es k)) (unwrap_or (counts es k) unopened) ++ sections_of (k + 1) names es

-- the lines of ANRs, one after the other
abbrev pub anr_lines : List Anr → List ℕ
anr_lines [] = []
anr_lines (n ∷ ns) = anr_line n.clock n.channel n.seq ++ anr_lines ns

-- the streams text of a history with these effects, for a session whose channels have these names: the section of each channel, in the
-- order of their numbers, and then the ANRs, in the order of the history
abbrev pub streams_text : List (List ℕ) → List Effect → List ℕ
streams_text names es = sections_of 1 names es ++ anr_lines (anrs es)
