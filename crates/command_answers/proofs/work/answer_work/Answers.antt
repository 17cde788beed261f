-- The run of the workload's session, with what its events give.
use Rattle.std.proofs.Common.{◌≡◌, ◌∙◌, List, ap, subst, reverse, length, []}
use Rattle.raw_events.specs.declared.event.RawEvent.{RawEvent}
use Rattle.dispatch_history.specs.Plan.{Plan}
use Rattle.device_reader.specs.CookedList.{ReadersStandFor}
use Rattle.schedule.specs.declared.keeping.Lines.TheVariants.{Counted}
use Rattle.schedule.specs.Planned.{plan_of}
use Rattle.schedule.specs.State.{RanWith, counted}
use Rattle.session_plan.specs.Plan.{PlanData}
use Rattle.workload_maker.specs.Session.{session}
use Rattle.command_files.specs.Cooked.{plans_of}
use Rattle.command_files.specs.Planned.{given, script_of}
use Rattle.command_answers.proofs.work.answer_work.Goals as goal

pub returns : goal.returns
returns c =
    let same = c.in_ok-session.ensures.session in
    let run : plan_of c.in_ok-planned.planned.plan ≡ script_of session = c.in_ok-planned.ensures.script ∙ ap script_of same in
    let stand : ReadersStandFor (plans_of session) [] c.in_ok-readers.readers =
    subst (λ (p : PlanData). ReadersStandFor (plans_of p) [] c.in_ok-readers.readers) same c.in_ok-readers.ensures in
    let ran : RanWith Counted (script_of session) [] c.in_ok-schedule.schedule =
    subst (λ (r : Plan). RanWith Counted r [] c.in_ok-schedule.schedule) run c.in_ok-schedule.ensures in
    let after = subst (λ (es : List RawEvent). RanWith Counted (script_of session) (given session (reverse es)) c.run_events.new.schedule) c.in_ok-session.ensures.events
    (c.in_ok-args.ensures.ran session run stand ran) in
    let count = subst (λ (es : List RawEvent). c.in_ok-args.args ≡ counted (length (given session (reverse es)))) c.in_ok-session.ensures.events
    (c.in_ok-args.ensures.count session run stand ran) in
    record { ok = c.finished.ensures.ok run after count; err = c.finished.ensures.err run after count }
