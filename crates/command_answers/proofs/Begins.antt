-- The start of a run, and how its end is judged.
use Rattle.std.proofs.Common.{◌≡◌, ℕ, List, Result, Ok, Err, sym, subst, refl, map, []}
use Rattle.std.proofs.lemmas.List.{reverse-reverse}
use Rattle.raw_events.specs.declared.event.RawEvent.{RawEvent}
use Rattle.raw_events.specs.declared.event.LineError.{LineError}
use Rattle.raw_events.specs.Line.{Known}
use Rattle.raw_events.specs.Pieces.{Reader}
use Rattle.raw_events.specs.Recording.{recorded}
use Rattle.raw_events.proofs.Reading.{nothing_in_front}
use Rattle.device_reader.specs.All.{ReadersState}
use Rattle.device_reader.specs.CookedList.{ReadersStandFor}
use Rattle.dispatch_history.specs.Plan.{Plan}
use Rattle.session_plan.specs.declared.plan.Plan.{Plan as Session}
use Rattle.session_plan.specs.DeviceDisplays.{device_displays}
use Rattle.session_plan.specs.Plan.{PlanData}
use Rattle.session_plan.specs.View.{channel_view, device_view, plan_view}
use Rattle.schedule.specs.declared.plan.Plan.{Plan as RunPlan}
use Rattle.schedule.specs.Planned.{plan_of, channel_of as run_channel, step_of as run_step}
use Rattle.schedule.specs.declared.keeping.Lines.{Lines}
use Rattle.schedule.specs.State.{ScheduleState, RanWith}
use Rattle.command_files.specs.declared.refusal.Refusal.{Refusal}
use Rattle.command_files.specs.declared.refusal.Refusal.TheVariants.{Session as SessionOf, Recording, Order, Stream, ReadFailed, NoMemory, TooLong}
use Rattle.command_files.specs.Cooked.{plans_of}
use Rattle.command_files.specs.Devices.{devices_of}
use Rattle.replay_actors.specs.Session.{channel_of, step_of}
use Rattle.command_files.specs.Planned.{script_of}
use Rattle.command_files.specs.Judged.{Answer, Behind}
use Rattle.command_answers.specs.declared.running.Sending.{Sending}
use Rattle.command_answers.specs.Running.{Comes, RunSends, lines_of}
use Rattle.command_files.specs.Inputs.{lines_judged}
use Rattle.command_files.specs.Refusing.{RefusesSo}
use Rattle.command_files.specs.Recorded.{HasEnded, HasRead, RefusesEvents}
use Rattle.command_files.specs.RefusalView.{refusal_view}

pub same_script : (session : Session) (run : RunPlan) → run.displays ≡ device_displays (map device_view session.devices.items)
    → map run_channel run.channels.items ≡ map (channel_of session.repeats) (map channel_view session.channels.items)
    → map run_step run.steps.items ≡ map step_of session.steps.items → run.until ≡ session.end → plan_of run ≡ script_of (plan_view session)
same_script session run d c s u = rw (d, c, s, u) refl

pub fresh : (how : Lines) (p : PlanData) (run : RunPlan) (reader : Reader) (readers : ReadersState) (schedule : ScheduleState) (devices : Known)
    → devices ≡ devices_of p → reader ≡ record { devices = devices; place = Ok (1, []) } → ReadersStandFor (plans_of p) [] readers → plan_of run ≡ script_of p
    → RanWith how (plan_of run) [] schedule → HasRead how p [] (record { reader = reader; readers = readers; schedule = schedule })
unfolding recorded
fresh how p run reader readers schedule devices d n stand is ran =
    record {
      past = [];
      read = λ rest. rw (n, d) (nothing_in_front _);
      begun = rw n refl;
      readers = stand;
      ran = subst (λ (r : Plan). RanWith how r [] schedule) is ran;
    }

-- the result for the events of all lines is the result for the recording
pub judged : (what : Sending) (p : PlanData) (bytes : List ℕ) (s : ScheduleState) (a : Answer) (ended : HasEnded (lines_of what) p bytes s)
    → Comes what p ended.past a → Behind (RunSends what p) (lines_judged (recorded (devices_of p) bytes)) a
judged what p bytes s a ended r =
    subst (λ (x : Result (List RawEvent) LineError). Behind (RunSends what p) (lines_judged x) a) (sym ended.read)
    (subst (λ (xs : List RawEvent). Comes what p xs a) (sym (reverse-reverse ended.past)) r)

pub refuses_events : (what : Sending) (p : PlanData) (bytes : List ℕ) (r : Refusal) → RefusesEvents p bytes r
    → RefusesSo (λ x. Behind (RunSends what p) (lines_judged (recorded (devices_of p) bytes)) (Err x)) r
refuses_events what p bytes (SessionOf e) h = absurd h
refuses_events what p bytes (Recording e) h =
    subst (λ (x : Result (List RawEvent) LineError). Behind (RunSends what p) (lines_judged x) (Err (refusal_view (Recording e)))) (sym h) refl
refuses_events what p bytes (Order e) h = absurd h
refuses_events what p bytes (Stream e) h = absurd h
refuses_events what p bytes (ReadFailed file) h = absurd h
refuses_events what p bytes NoMemory h = tt
refuses_events what p bytes (TooLong subject) h = absurd h
