-- One call more.
use Rattle.std.proofs.Common.{refl, sym, ap, ◌∙◌, subst}
use Rattle.schedule.specs.State.{HasWith, ScheduleState}
use Rattle.schedule.proofs.Stepping.{has_step}
use Rattle.dispatcher.specs.Access.{gone}
use Rattle.schedule.specs.More.{ComesTo}
use Rattle.schedule.proofs.schedule.Schedule.apply.Goals as goal

pub returns-in-Ok-clause-after : goal.returns-in-Ok-clause-after
returns-in-Ok-clause-after c = λ how plan es h never next.
    let before = subst (HasWith how plan es) (sym c.self.view_is) h in
    let applies = (rw c.in-Ok.is at c.apply_call.ensures.after) es before.stands in
    has_step how plan es _ _ before c.apply_call.ensures.displays c.apply_call.ensures.gone c.apply_call.ensures.anrs refl c.args.call.now applies never
    refl next
    c.saturating_add-self-inside.ensures

pub returns-in-Ok-clause-kept : goal.returns-in-Ok-clause-kept
returns-in-Ok-clause-kept c =
    record {
      gone = λ k low. c.apply_call.ensures.gone k low ∙ ap (λ (s : ScheduleState). gone s.dispatcher k) c.self.view_is;
      more = record {
        on = λ es k. c.apply_call.ensures.more es (subst (λ (s : ScheduleState). ComesTo es s.dispatcher) (sym c.self.view_is) k);
        latest = ap (λ (s : ScheduleState). s.latest) c.self.view_is;
      };
    }

pub returns-in-Err-clause-kept : goal.returns-in-Err-clause-kept
returns-in-Err-clause-kept c =
    record {
      gone = λ k low. c.apply_call.ensures.gone k low ∙ ap (λ (s : ScheduleState). gone s.dispatcher k) c.self.view_is;
      more = record {
        on = λ es k. c.apply_call.ensures.more es (subst (λ (s : ScheduleState). ComesTo es s.dispatcher) (sym c.self.view_is) k);
        latest = ap (λ (s : ScheduleState). s.latest) c.self.view_is;
      };
    }
