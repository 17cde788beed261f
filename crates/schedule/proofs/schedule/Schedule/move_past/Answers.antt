-- The Move bypassed the channels, or nothing changed.
use Rattle.std.proofs.Common.{option_map, refl, sym, ap, ◌∙◌, subst, arith}
use Rattle.input_types.specs.DeviceRule.{device_of}
use Rattle.dispatcher.specs.Dispatching.{Dispatching}
use Rattle.schedule.specs.Draining.{WithLast}
use Rattle.schedule.specs.More.{ComesTo}
use Rattle.schedule.specs.State.{HasWith, ReadyWith, ScheduleState}
use Rattle.schedule.proofs.MovedPast.{all_moved, has_moved, moved_more}
use Rattle.schedule.proofs.Twice.{none_mapped}
use Rattle.schedule.proofs.schedule.Schedule.move_past.Goals as goal

pub returns-in_err-sent-clause-more : goal.returns-in_err-sent-clause-more
returns-in_err-sent-clause-more c =
    record {
      on = λ es k. subst (ComesTo es) (sym c.in_err-sent.ensures.err) (subst (λ (s : ScheduleState). ComesTo es s.dispatcher) (sym c.self.view_is) k);
      latest = ap (λ (s : ScheduleState). s.latest) c.self.view_is;
    }

pub returns-in_default-2-clause-undone : goal.returns-in_default-2-clause-undone
returns-in_default-2-clause-undone c = λ undone.
    ap
    (λ (d : Dispatching).
    let s : ScheduleState =
    record {
      dispatcher = d;
      lines = c.self.inside.streams.items;
      causes = option_map (λ text. text.items) c.self.inside.causes;
      next = c.self.inside.next;
      calls = c.self.inside.calls;
      messages = c.self.inside.messages;
      latest = c.self.inside.latest;
    } in
    s)
    (c.in_ok-sent.ensures.none c.in_default-2.is)
    ∙ c.self.view_is

pub returns-in_default-2-clause-more : goal.returns-in_default-2-clause-more
returns-in_default-2-clause-more c =
    record {
      on = λ es k. subst (ComesTo es) (sym (c.in_ok-sent.ensures.none c.in_default-2.is)) (subst (λ (s : ScheduleState). ComesTo es s.dispatcher) (sym c.self.view_is) k);
      latest = ap (λ (s : ScheduleState). s.latest) c.self.view_is;
    }

pub returns-in_err-count-clause-more : goal.returns-in_err-count-clause-more
returns-in_err-count-clause-more c =
    record {
      on = λ es k.
          moved_more es _ _ c.args.now c.args.args.now c.in-Some.sent (rw c.in-Some.is at c.in_ok-sent.ensures.past)
          (subst (λ (s : ScheduleState). ComesTo es s.dispatcher) (sym c.self.view_is) k);
      latest = ap (λ (s : ScheduleState). s.latest) c.self.view_is;
    }

pub returns-clause-more : goal.returns-clause-more
returns-clause-more c =
    record {
      on = λ es k.
          moved_more es _ _ c.args.now c.args.args.now c.in-Some.sent (rw c.in-Some.is at c.in_ok-sent.ensures.past)
          (subst (λ (s : ScheduleState). ComesTo es s.dispatcher) (sym c.self.view_is) k);
      latest = ap (λ (s : ScheduleState). s.latest) c.self.view_is;
    }

pub returns-clause-done : goal.returns-clause-done
returns-clause-done c = λ how plan es h made.
    has_moved how plan es _ _ c.args.now c.args.args.now c.in-Some.sent (subst (HasWith how plan es) (sym c.self.view_is) h)
    (rw c.in-Some.is at c.in_ok-sent.ensures.past)
    (none_mapped c.self.inside.causes (λ text. text.items) (sym c.is_some.ensures ∙ c.if-is_some.false))
    refl
    refl
    c.saturating_add-self-inside.ensures
    (λ n within.
    let here = c.in_ok-count.ensures.count n within in
    omega (arith, here, c.saturating_add-self-inside-2.ensures))
    (λ fs after opened all.
    subst (λ n. WithLast c.in-Some.sent n fs c.move_past.new.self c.self.inside.streams.items c.drain_each.new.streams.items)
    (sym (ap device_of c.in-Motion.is)) (c.in_ok-count.ensures.lines fs after opened all))

pub returns-clause-all : goal.returns-clause-all
returns-clause-all c = λ how plan es r made.
    let before = subst (ReadyWith how plan es) (sym c.self.view_is) r in
    let after : ScheduleState =
    record {
      dispatcher = c.move_past.new.self;
      lines = c.drain_each.new.streams.items;
      causes = option_map (λ text. text.items) c.self.inside.causes;
      next = c.self.inside.next;
      calls = c.saturating_add-self-inside.result;
      messages = c.saturating_add-self-inside-2.result;
      latest = c.self.inside.latest;
    } in
    all_moved how plan es _ after c.args.now c.args.args.now c.in-Some.sent before.has (rw c.in-Some.is at c.in_ok-sent.ensures.past)
    (none_mapped c.self.inside.causes (λ text. text.items) (sym c.is_some.ensures ∙ c.if-is_some.false))
    before.all_released
