-- Worked ends of recordings: one that is read, and one whose last line is cut.
use Rattle.std.proofs.Common.{◌++◌, [], ◌∷◌, List, ℕ, Err, refl}
use Rattle.std.specs.Prelude.{codes}
use Rattle.raw_events.specs.declared.event.LineError.TheVariants as errors
use Rattle.raw_events.specs.Text.{number_at}
use Rattle.raw_events.specs.Line.{Known, fields_of, formed, judged, judged_text, moment_at, path_at, seconds_at}
use Rattle.raw_events.specs.Recording.{recorded}
use Rattle.device_reader.specs.Cooked.{DevicePlan}
use Rattle.recording_counts.specs.RecordingTally.{Ends, TallyState}

-- one touch device
touch : Known
touch = (codes "/dev/input/event2", 1) ∷ []

-- a header, and an event whose value is missing
bytes : List ℕ
bytes = codes "add device 1: /dev/input/event2" ++ 10 ∷ codes "[       1.000000] /dev/input/event2: 0003 0039"

-- at the end line 2 is refused
cut_end : (plans : List DevicePlan) (t : TallyState) → Ends (Err (errors.BadLine 2)) touch plans bytes t
unfolding touch bytes recorded judged judged_text formed moment_at seconds_at number_at path_at fields_of
cut_end plans t = refl

-- and it is no other line
cut_elsewhere : (plans : List DevicePlan) (t : TallyState) → Ends (Err (errors.BadLine 1)) touch plans bytes t → ⊥
unfolding touch bytes recorded judged judged_text formed moment_at seconds_at number_at path_at fields_of
cut_elsewhere plans t h = cc
