-- What an event gives is handed to the run.
use Rattle.std.proofs.Common.{◌≡◌, ◌∙◌, List, ◌∷◌, ◌++◌, ◌+◌, ap, sym, subst, length}
use Rattle.std.proofs.lemmas.List.{length-append, length-map}
use Rattle.input_types.specs.declared.message.Args.{Args}
use Rattle.raw_events.specs.declared.event.RawEvent.{RawEvent}
use Rattle.dispatch_history.specs.Plan.{Plan, Cooked}
use Rattle.device_reader.specs.CookedList.{ReadersStandFor}
use Rattle.schedule.specs.State.{RanWith}
use Rattle.session_plan.specs.Plan.{PlanData}
use Rattle.command_files.specs.Cooked.{plans_of}
use Rattle.command_files.specs.Planned.{given, script_of}
use Rattle.command_files.proofs.NextGiven.{all_at}
use Rattle.command_files.proofs.Outcomes.{on_ok_any, on_ok_map}
use Rattle.command_files.proofs.recording.run_event.Goals as goal

pub returns : goal.returns
returns c =
    let event = c.args.event in
    let at = c.in_ok-moment.moment in
    let args : List Args = c.deref.result.now in
    let more : (p : PlanData) (past : List RawEvent) → ReadersStandFor (plans_of p) past c.args.readers.now → given p (event ∷ past) ≡ given p past ++ all_at at args =
    λ p past stand. c.in_ok-moment.ensures.given p past stand ∙ ap (λ (xs : List Args). given p past ++ all_at at xs) (sym c.deref.ensures.value) in
    record {
      ran = λ how p past run stand ran.
          on_ok_map c.run_args.result _ _
          (λ handed. (
            c.in_ok-moment.ensures.after p past stand,
            subst (λ (cs : List Cooked). RanWith how (script_of p) cs c.run_args.new.schedule) (sym (more p past stand))
                (subst (λ (r : Plan). RanWith how r (given p past ++ all_at at args) c.run_args.new.schedule) run handed),
          ))
          (c.run_args.ensures how (given p past) (subst (λ (r : Plan). RanWith how r (given p past) c.args.schedule.now) (sym run) ran));
      count = λ p past stand.
          on_ok_any c.run_args.result _
          (ap length (more p past stand) ∙ length-append (given p past) (all_at at args)
          ∙ ap (λ n. length (given p past) + n) (length-map args (λ (a : Args). record { moment = at; args = a }) ∙ ap length c.deref.ensures.value));
    }
