-- One more event, and all events.
use Rattle.std.proofs.Common.{◌≡◌, ◌∙◌, List, ◌∷◌, ◌++◌, ap, sym, subst, take, reverse}
use Rattle.input_types.specs.declared.message.Args.{Args}
use Rattle.raw_events.specs.declared.event.RawEvent.{RawEvent}
use Rattle.dispatch_history.specs.Plan.{Cooked}
use Rattle.device_reader.specs.CookedList.{ReadersStandFor}
use Rattle.command_files.specs.Cooked.{plans_of}
use Rattle.command_files.specs.Planned.{given}
use Rattle.command_files.proofs.Newest.{newest_of_take}
use Rattle.command_files.proofs.NextGiven.{all_at}
use Rattle.command_answers.proofs.given.cook_events.Goals as goal

pub loop-event-preserved : goal.loop-event-preserved
loop-event-preserved c = λ p stand.
    let before = c.loop-event.invariant p stand in
    let item = c.event-item.result in
    let so_far = reverse (take c.loop-event.event-index c.args.events.now) in
    let newest : reverse (take _ c.args.events.now) ≡ item ∷ so_far = newest_of_take c.args.events.now c.loop-event.event-index item c.loop-event-test.true c.event-item.is in
    let args : List Args = c.deref.result.now in (
      subst (λ (es : List RawEvent). ReadersStandFor (plans_of p) es c.cook_event.new.readers) (sym newest) (c.in_ok-moment.ensures.after p so_far before.0),
      c.in_ok-push_all.ensures
          ∙ ap (λ (cs : List Cooked). cs ++ all_at c.in_ok-moment.moment args) before.1
          ∙ ap (λ (xs : List Args). given p so_far ++ all_at c.in_ok-moment.moment xs) c.deref.ensures.value
          ∙ sym (c.in_ok-moment.ensures.given p so_far before.0)
          ∙ ap (given p) (sym newest),
    )
