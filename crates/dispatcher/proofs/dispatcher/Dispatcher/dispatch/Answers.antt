-- By what the tables made of it; where args wait or may not come, the dispatcher is as it was.
use Rattle.std.proofs.Common.{is_some, refl, sym, ap, ◌∙◌, subst, arith}
use Rattle.std.proofs.lemmas.Bool.{true≢false}
use Rattle.dispatcher.specs.Dispatching.{IsAfter, IsOfHistory}
use Rattle.dispatcher.proofs.Made.Answered.{may_step}
use Rattle.dispatcher.proofs.Made.Applying.{raw, seen_same}
use Rattle.dispatcher.proofs.Room.Oks.{on_err}
use Rattle.dispatcher.proofs.Laws.Reading.{some_copied}
use Rattle.dispatcher.proofs.Made.Through.{history_through, may_not_come, need_not_wait, nothing_first, some_wait, steps_twice}
use Rattle.dispatcher.proofs.dispatcher.Dispatcher.dispatch.Goals as goal

pub dispatch_at_once-requires-clause-step : goal.dispatch_at_once-requires-clause-step
dispatch_at_once-requires-clause-step c = may_step c.self.inside.tables c.self.invariant.0 (omega (arith, c.in_ok-may_step_twice.ensures))

pub dispatch_at_once-requires-clause-none : goal.dispatch_at_once-requires-clause-none
dispatch_at_once-requires-clause-none c =
    nothing_first _ _ c.first.ensures (sym (some_copied c.first.result) ∙ sym c.is_some.ensures ∙ c.if-is_some.false)

pub returns-then-is_some-clause-exact : goal.returns-then-is_some-clause-exact
returns-then-is_some-clause-exact c = λ es s. (
  λ done. absurd (true≢false (sym done)),
  λ need.
      absurd
      (some_wait es c.self.inside.tables c.args.now c.args.args.now (raw es c.self.inside.tables (subst (IsAfter es) (sym c.self.view_is) s))
      (ap is_some (sym c.first.ensures) ∙ sym (some_copied c.first.result) ∙ sym c.is_some.ensures ∙ c.if-is_some.true)
      need),
)

pub returns-in-Err-clause-exact : goal.returns-in-Err-clause-exact
returns-in-Err-clause-exact c = λ es s. (
  λ done. absurd (true≢false (sym done)),
  λ need.
      absurd
      (may_not_come es c.self.inside.tables c.args.now c.args.args.now _ (raw es c.self.inside.tables (subst (IsAfter es) (sym c.self.view_is) s)) c.in-Err.ensures.plan
      c.in-Err.ensures.device
      need),
)

pub returns-in_ok-dispatch_at_once-in-Ok-clause-exact : goal.returns-in_ok-dispatch_at_once-in-Ok-clause-exact
returns-in_ok-dispatch_at_once-in-Ok-clause-exact c = λ es s. (
  λ done.
      need_not_wait es c.self.inside.tables c.args.now c.args.args.now c.in-Ok.change (raw es c.self.inside.tables (subst (IsAfter es) (sym c.self.view_is) s))
      (nothing_first _ _ c.first.ensures (sym (some_copied c.first.result) ∙ sym c.is_some.ensures ∙ c.if-is_some.false))
      c.in-Ok.ensures.plan
      c.in-Ok.ensures.device,
  λ need. refl,
)

pub returns-in_ok-dispatch_at_once-in-Ok-clause-done : goal.returns-in_ok-dispatch_at_once-in-Ok-clause-done
returns-in_ok-dispatch_at_once-in-Ok-clause-done c = λ done.
    steps_twice c.self.inside.tables c.dispatch_at_once.new.tables c.args.self.now c.args.now c.args.args.now c.self.view_is
    c.in_ok-dispatch_at_once-in-Ok.ensures.ok

pub invariant_of-self-in-Ok : goal.invariant_of-self-in-Ok
invariant_of-self-in-Ok c = (
  history_through c.self.inside.tables c.dispatch_at_once.new.tables c.args.now c.args.args.now c.in_ok-dispatch_at_once-in-Ok.ensures.ok c.self.invariant.0,
  c.in_ok-dispatch_at_once-in-Ok.ensures.promise c.self.invariant.1,
)

pub invariant_of-self : goal.invariant_of-self
invariant_of-self c = (
  subst IsOfHistory (sym (seen_same c.self.inside.tables c.dispatch_at_once.new.tables c.in_err-dispatch_at_once-in-Ok.ensures.err)) c.self.invariant.0,
  c.in_err-dispatch_at_once-in-Ok.ensures.promise c.self.invariant.1,
)

pub returns-in_err-dispatch_at_once-in-Ok-clause-err : goal.returns-in_err-dispatch_at_once-in-Ok-clause-err
returns-in_err-dispatch_at_once-in-Ok-clause-err c =
    on_err _ _ (seen_same c.self.inside.tables c.dispatch_at_once.new.tables c.in_err-dispatch_at_once-in-Ok.ensures.err ∙ c.self.view_is)
