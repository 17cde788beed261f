-- One event more.
use Rattle.std.specs.Prelude.{◌≡◌, ℕ, ◌+◌, ◌++◌, List, ◌∷◌, map, reverse, take}
use Rattle.std.proofs.lemmas.List.{reverse-append}
use Rattle.std.proofs.Common.{sym, ◌∙◌, ap, subst}
use Rattle.raw_events.specs.declared.event.RawEvent.{RawEvent}
use Rattle.input_types.specs.declared.message.Args.{Args}
use Rattle.device_reader.specs.CookedList.{added, cooked, ReadersStandFor}
use Rattle.device_reader.proofs.All.{taken_more}
use Rattle.device_reader.proofs.recording.cook.Goals as goal

pub loop-event-preserved : goal.loop-event-preserved
loop-event-preserved c =
    let e : RawEvent = c.event-item.result in
    let before : List RawEvent = reverse (take c.loop-event.event-index c.args.events.now) in
    let now : reverse (take (c.loop-event.event-index + 1) c.args.events.now) ≡ e ∷ before =
    taken_more c.args.events.now c.loop-event.event-index e c.loop-event-test.true c.event-item.is in
    record {
      stand = λ plans h. subst (λ (es : List RawEvent). ReadersStandFor plans es c.take.new.self) (sym now)
          (c.in_ok-moment.ensures.after plans before (c.loop-event.invariant.stand plans h));
      all = λ plans h.
          let stands : ReadersStandFor plans before c.loop-event.readers = c.loop-event.invariant.stand plans h in
          ap (λ (v : List (ℕ × Args)). reverse v) c.in_ok-push_all.ensures
          ∙ ap (λ (xs : List Args). reverse (c.loop-event.given.items ++ map (λ (a : Args). (c.in_ok-moment.moment, a)) xs))
          (c.deref.ensures.value ∙ c.in_ok-moment.ensures.ok plans before stands ∙ ap (λ xs. xs ++ added plans before e) c.clear.ensures.items)
          ∙ reverse-append c.loop-event.given.items (map (λ (a : Args). (c.in_ok-moment.moment, a)) (added plans before e))
          ∙ ap (λ xs. reverse (map (λ (a : Args). (c.in_ok-moment.moment, a)) (added plans before e)) ++ xs) (c.loop-event.invariant.all plans h)
          ∙ sym (c.in_ok-moment.ensures.cooked plans before stands)
          ∙ ap (λ es. cooked plans es) (sym now);
    }
