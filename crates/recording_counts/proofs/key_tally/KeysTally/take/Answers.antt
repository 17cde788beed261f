-- The keys go on, and all is counted.
use Rattle.std.specs.Prelude.{◌++◌, List, reverse}
use Rattle.std.proofs.Common.{ap, ◌∙◌}
use Rattle.input_types.specs.declared.message.Args.{Args}
use Rattle.device_reader.specs.Cooked.{device_args}
use Rattle.recording_counts.specs.Events.{is_keys_used}
use Rattle.recording_counts.specs.KeyTally.{key_counts}
use Rattle.recording_counts.proofs.Oks.{both_ok}
use Rattle.recording_counts.proofs.key_tally.KeysTally.take.Goals as goal

pub returns : goal.returns
returns c = λ plan past same h.
    both_ok c.track.result
    (λ v d. record {
      void_is = v;
      down_are = d;
      events_are = c.take.ensures is_keys_used past c.is_keys_used.ensures h.void_is h.events_are;
      counts_are = c.take_all.ensures (device_args plan past) h.counts_are ∙ ap (λ (xs : List Args). key_counts (reverse xs ++ device_args plan past)) same;
    })
    (c.track.ensures.void past h.void_is)
    (c.track.ensures.down past h.void_is h.down_are)
