-- Both calls were made, or nothing changed.
use Rattle.std.proofs.Common.{option_map, refl, sym, ap, ◌∙◌, subst}
use Rattle.dispatch_calls.specs.declared.call.Call.TheVariants.{Notify, Pump}
use Rattle.dispatcher.specs.Access.{gone}
use Rattle.dispatcher.specs.Dispatching.{Dispatching}
use Rattle.schedule.specs.More.{ComesTo}
use Rattle.schedule.specs.State.{HasWith, ScheduleState}
use Rattle.schedule.proofs.Twice.{has_two, none_mapped, two_more}
use Rattle.schedule.proofs.schedule.Schedule.dispatch.Goals as goal

pub returns-in_err-done-clause-gone : goal.returns-in_err-done-clause-gone
returns-in_err-done-clause-gone c = λ k low. ap (λ d. gone d k) (c.in_err-done.ensures.err ∙ ap (λ (s : ScheduleState). s.dispatcher) c.self.view_is)

pub returns-in_err-done-clause-more : goal.returns-in_err-done-clause-more
returns-in_err-done-clause-more c =
    record {
      on = λ es k. subst (ComesTo es) (sym c.in_err-done.ensures.err) (subst (λ (s : ScheduleState). ComesTo es s.dispatcher) (sym c.self.view_is) k);
      latest = ap (λ (s : ScheduleState). s.latest) c.self.view_is;
    }

pub returns-then-not-done-clause-undone : goal.returns-then-not-done-clause-undone
returns-then-not-done-clause-undone c = λ undone.
    ap
    (λ (d : Dispatching).
    let s : ScheduleState =
    record {
      dispatcher = d;
      lines = c.self.inside.streams.items;
      causes = option_map (λ text. text.items) c.self.inside.causes;
      next = c.self.inside.next;
      calls = c.self.inside.calls;
      messages = c.self.inside.messages;
      latest = c.self.inside.latest;
    } in
    s)
    (c.in_ok-done.ensures.undone c.if-not-done.true)
    ∙ c.self.view_is

pub returns-then-not-done-clause-gone : goal.returns-then-not-done-clause-gone
returns-then-not-done-clause-gone c = λ k low.
    ap (λ d. gone d k) (c.in_ok-done.ensures.undone c.if-not-done.true ∙ ap (λ (s : ScheduleState). s.dispatcher) c.self.view_is)

pub returns-then-not-done-clause-more : goal.returns-then-not-done-clause-more
returns-then-not-done-clause-more c =
    record {
      on = λ es k. subst (ComesTo es) (sym (c.in_ok-done.ensures.undone c.if-not-done.true)) (subst (λ (s : ScheduleState). ComesTo es s.dispatcher) (sym c.self.view_is) k);
      latest = ap (λ (s : ScheduleState). s.latest) c.self.view_is;
    }

pub returns-clause-done : goal.returns-clause-done
returns-clause-done c = λ how plan es h made.
    has_two how plan es _ _ (Notify c.args.now c.args.args.now) (Pump c.args.now) (subst (HasWith how plan es) (sym c.self.view_is) h)
    (c.in_ok-done.ensures.done c.if-not-done.false)
    (none_mapped c.self.inside.causes (λ text. text.items) (sym c.is_some.ensures ∙ c.if-is_some.false))
    refl
    refl
    refl
    refl
    refl
    refl
    refl
    refl
    c.saturating_add-self-inside.ensures

pub returns-clause-gone : goal.returns-clause-gone
returns-clause-gone c = λ k low.
    let two = c.in_ok-done.ensures.done c.if-not-done.false in
    two.second_made.gone_are k low ∙ two.first_made.gone_are k low ∙ ap (λ (s : ScheduleState). gone s.dispatcher k) c.self.view_is

pub returns-clause-more : goal.returns-clause-more
returns-clause-more c =
    record {
      on = λ es k.
          two_more es _ _ (Notify c.args.now c.args.args.now) (Pump c.args.now) (c.in_ok-done.ensures.done c.if-not-done.false)
          (subst (λ (s : ScheduleState). ComesTo es s.dispatcher) (sym c.self.view_is) k);
      latest = ap (λ (s : ScheduleState). s.latest) c.self.view_is;
    }
