-- One event further.
use Rattle.std.proofs.Common.{◌++◌, List, reverse, take, subst, sym}
use Rattle.raw_events.specs.declared.event.RawEvent.{RawEvent}
use Rattle.device_reader.proofs.All.{taken_more}
use Rattle.recording_counts.specs.EventTally.{EventTallyStandsFor}
use Rattle.recording_counts.proofs.event_tally.EventTally.take_all.Goals as goal

pub loop-event-preserved : goal.loop-event-preserved
loop-event-preserved c = λ plans past h.
    subst (λ (es : List RawEvent). EventTallyStandsFor plans (es ++ past) c.take.new.self)
    (sym (taken_more c.args.events.now c.loop-event.event-index c.event-item.result c.loop-event-test.true c.event-item.is))
    (c.in_ok-take.ensures plans (reverse (take c.loop-event.event-index c.args.events.now) ++ past) (c.loop-event.invariant plans past h))
