-- A round before the args, their own round, or none where the run is over.
use Rattle.std.proofs.Common.{◌≡◌, ◌∙◌, ◌++◌, [], ◌∷◌, false, sym, ap, subst}
use Rattle.std.specs.Prelude.{option_map}
use Rattle.dispatch_history.specs.Plan.{Cooked}
use Rattle.schedule.specs.Choosing.{Advances, NoneOverdue}
use Rattle.schedule.specs.Planned.{plan_of}
use Rattle.schedule.specs.More.{ComesTo}
use Rattle.schedule.specs.State.{ScheduleState, ReadyWith, RanWith, is_over}
use Rattle.schedule.proofs.Overdue.{run_overdue}
use Rattle.schedule.proofs.Running.{Coming, coming, coming_next, coming_done, coming_over}
use Rattle.schedule.proofs.Stepping.{on_ok}
use Rattle.schedule.proofs.schedule.Schedule.take.Goals.{else-quick-test, then-quick-test+in_ok-finish_at_once+then-not-branch}
use Rattle.schedule.proofs.schedule.Schedule.take.Goals as goal

pub returns-then-not-branch-2-clause-ran : goal.returns-then-not-branch-2-clause-ran
returns-then-not-branch-2-clause-ran c = λ how given r.
    let plan = plan_of c.args.plan.now in
    let a : Cooked = record { moment = c.args.moment; args = c.args.args.now } in
    let h = c.rounds.invariant.coming how given r in
    let overdue : NoneOverdue (plan_of c.args.plan.now).channels h.es = run_overdue c.args.plan.now ((given ++ a ∷ []) ++ []) h.es c.requires (h.rounds []) in
    let over : is_over c.rounds.self ≡ false = sym c.is_too_long-in-rounds.ensures.over ∙ c.rounds-test.true in
    let none = subst (Advances how plan c.args.moment h.es c.rounds.self c.advance.new.self) c.if-not-branch-2.true (c.in_ok-advance.ensures.after how h.es h.ready overdue) in
    on_ok c.hand_in.result _ _ (c.hand_in.ensures.after how plan h.es (subst (ReadyWith how plan h.es) (sym none.1) h.ready))
    (λ ready. coming_done how plan given a c.rounds.self c.advance.new.self c.hand_in.new.self h over none ready (c.hand_in.ensures.more.latest ∙ c.advance.ensures.more.latest))

pub quick-init : goal.quick-init
quick-init c =
    record {
      coming = λ how given r.
          let plan = plan_of c.args.plan.now in
          let a : Cooked = record { moment = c.args.moment; args = c.args.args.now } in
          coming how plan given a _ _ (subst (RanWith how plan given) (sym c.self.view_is) r)
          (ap
          (λ n.
          let s : ScheduleState = record {
            dispatcher = c.self.inside.dispatcher;
            lines = c.self.inside.streams.items;
            causes = option_map (λ v. v.items) c.self.inside.causes;
            next = c.self.inside.next;
            calls = c.self.inside.calls;
            messages = c.self.inside.messages;
            latest = n;
          } in s)
          c.later-self-inside.ensures);
      more = λ es k. subst (λ (s : ScheduleState). ComesTo es s.dispatcher) (sym c.self.view_is) k;
    }

pub quick-preserved : goal.quick-preserved
quick-preserved c =
    record {
      coming = λ how given r.
          let plan = plan_of c.args.plan.now in
          let a : Cooked = record { moment = c.args.moment; args = c.args.args.now } in
          let h = c.quick.invariant.coming how given r in
          let overdue : NoneOverdue (plan_of c.args.plan.now).channels h.es = run_overdue c.args.plan.now ((given ++ a ∷ []) ++ []) h.es c.requires (h.rounds []) in
          let over : is_over c.quick.self ≡ false = sym c.is_too_long.ensures.over ∙ c.quick-test.true in
          coming_next how plan given a c.quick.self c.finish_at_once.new.self h over
          (c.in_ok-finish_at_once.ensures.after how h.es h.ready overdue c.if-not-branch.false) c.finish_at_once.ensures.more.latest;
      more = λ es k. c.finish_at_once.ensures.more.on es (c.quick.invariant.more es k);
    }

pub rounds-init : goal.rounds-init
rounds-init c =
    let same : c.quick-test.self ≡ c.quick.self = elim c.quick-test.branch [
      | else-quick-test w ↦ w.self-is
      | then-quick-test+in_ok-finish_at_once+then-not-branch w ↦ w.self-is ∙ w.in_ok-finish_at_once.ensures.stays w.if-not-branch.true
    ] in
    record {
      coming = λ how given r.
          subst (Coming how (plan_of c.args.plan.now) given (record { moment = c.args.moment; args = c.args.args.now })) (sym same) (c.quick.invariant.coming how given r);
      more = λ es k. subst (λ (s : ScheduleState). ComesTo es s.dispatcher) (sym same) (c.quick.invariant.more es k);
    }

pub rounds-preserved : goal.rounds-preserved
rounds-preserved c =
    record {
      coming = λ how given r.
          let plan = plan_of c.args.plan.now in
          let a : Cooked = record { moment = c.args.moment; args = c.args.args.now } in
          let h = c.rounds.invariant.coming how given r in
          let overdue : NoneOverdue (plan_of c.args.plan.now).channels h.es = run_overdue c.args.plan.now ((given ++ a ∷ []) ++ []) h.es c.requires (h.rounds []) in
          let over : is_over c.rounds.self ≡ false = sym c.is_too_long-in-rounds.ensures.over ∙ c.rounds-test.true in
          coming_next how plan given a c.rounds.self c.advance.new.self h over
          (subst (Advances how plan c.args.moment h.es c.rounds.self c.advance.new.self) c.if-not-branch-2.false (c.in_ok-advance.ensures.after how h.es h.ready overdue)) c.advance.ensures.more.latest;
      more = λ es k. c.advance.ensures.more.on es (c.rounds.invariant.more es k);
    }

pub returns-clause-ran : goal.returns-clause-ran
returns-clause-ran c = λ how given r.
    coming_over how (plan_of c.args.plan.now) given (record { moment = c.args.moment; args = c.args.args.now }) c.rounds.self (c.rounds.invariant.coming how given r)
    (sym c.is_too_long-in-rounds.ensures.over ∙ c.rounds-test.false)
