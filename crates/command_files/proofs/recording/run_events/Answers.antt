-- One more event, and all events.
use Rattle.std.proofs.Common.{◌≡◌, List, ◌++◌, ap, sym, subst, take, take_all, reverse}
use Rattle.raw_events.specs.declared.event.RawEvent.{RawEvent}
use Rattle.device_reader.specs.CookedList.{ReadersStandFor}
use Rattle.schedule.specs.State.{RanWith}
use Rattle.command_files.specs.Cooked.{plans_of}
use Rattle.command_files.specs.Planned.{given, script_of}
use Rattle.command_files.proofs.Newest.{newest_of_take}
use Rattle.command_files.proofs.recording.run_events.Goals as goal

pub loop-event-preserved : goal.loop-event-preserved
loop-event-preserved c = λ how p past run stand ran.
    let before = c.loop-event.invariant how p past run stand ran
    in let so_far = reverse (take c.loop-event.event-index c.args.events.now) ++ past
    in let newest = ap (λ (es : List RawEvent). es ++ past) (newest_of_take c.args.events.now c.loop-event.event-index c.event-item.result c.loop-event-test.true c.event-item.is)
    in let after = c.in_ok-run_event.ensures.ran how p so_far run before.0 before.1
    in (
      subst (λ (es : List RawEvent). ReadersStandFor (plans_of p) es c.run_event.new.readers) (sym newest) after.0,
      subst (λ (es : List RawEvent). RanWith how (script_of p) (given p es) c.run_event.new.schedule) (sym newest) after.1,
    )

pub returns : goal.returns
returns c = λ how p past run stand ran.
    let before = c.loop-event.invariant how p past run stand ran
    in let all : take c.loop-event.event-index c.args.events.now ≡ c.args.events.now = take_all c.loop-event.event-index c.args.events.now c.loop-event-test.false
    in (
      subst (λ (es : List RawEvent). ReadersStandFor (plans_of p) (reverse es ++ past) c.loop-event.readers) all before.0,
      subst (λ (es : List RawEvent). RanWith how (script_of p) (given p (reverse es ++ past)) c.loop-event.schedule) all before.1,
    )
