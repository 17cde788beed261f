use Rattle.std.proofs.Common.{◌≤◌, ◌+◌, not, is_some, sym, ap, ◌∙◌, subst}
use Rattle.std.proofs.lemmas.Bool.{true≢false}
use Rattle.dispatch_calls.specs.declared.call.Call.TheVariants.{Pump}
use Rattle.dispatch_calls.specs.declared.reply.Reply.TheVariants.{Dispatched}
use Rattle.dispatcher.specs.Dispatching.{IsAfter, IsOfHistory}
use Rattle.dispatcher.specs.Outcomes.{reply_of}
use Rattle.dispatcher.proofs.Made.Answered.{answers_if, answers_on, counted, history_if, history_on, makes, may_step, not_idle, stays_if}
use Rattle.dispatcher.proofs.Made.Applying.{raw, seen_same}
use Rattle.dispatcher.proofs.Room.Oks.{if_there, on_err}
use Rattle.dispatcher.proofs.Laws.Reading.{some_copied}
use Rattle.dispatcher.proofs.dispatcher.Dispatcher.pump.Goals as goal

pub idle-requires-clause-step : goal.idle-requires-clause-step
idle-requires-clause-step c = may_step c.self.inside.tables c.self.invariant.0 c.in_ok-may_step.ensures.ok

pub invariant_of-self : goal.invariant_of-self
invariant_of-self c = (
  history_if reply_of (Pump c.args.now) c.idle.result c.self.inside.tables c.idle.new.tables c.idle.ensures.ok c.idle.ensures.err c.self.invariant.0,
  c.idle.ensures.promise c.self.invariant.1,
)

pub returns-then-is_none-clause-ok : goal.returns-then-is_none-clause-ok
returns-then-is_none-clause-ok c =
    answers_if reply_of (Pump c.args.now) c.idle.result c.self.inside.tables c.idle.new.tables c.args.self.now c.self.view_is c.idle.ensures.ok

pub returns-then-is_none-clause-err : goal.returns-then-is_none-clause-err
returns-then-is_none-clause-err c = stays_if c.idle.result c.self.inside.tables c.idle.new.tables c.args.self.now c.self.view_is c.idle.ensures.err

pub returns-then-is_none-clause-calm : goal.returns-then-is_none-clause-calm
returns-then-is_none-clause-calm c es s few calm = c.idle.ensures.calm es (raw es c.self.inside.tables (subst (IsAfter es) (sym c.self.view_is) s)) calm

pub returns-then-is_none-clause-pumped : goal.returns-then-is_none-clause-pumped
returns-then-is_none-clause-pumped c es s few one some = c.idle.ensures.pumped (subst (λ d. 1 ≤ d.queue.pumps) (sym c.self.view_is) some) c.self.invariant.1

pub returns-then-is_none-clause-pumps : goal.returns-then-is_none-clause-pumps
returns-then-is_none-clause-pumps c = subst (λ d. d.queue.pumps ≤ c.idle.new.tables.queueing.pumps + 1) c.self.view_is c.idle.ensures.pumps

pub dispatch_first-requires : goal.dispatch_first-requires
dispatch_first-requires c = may_step c.self.inside.tables c.self.invariant.0 c.in_ok-may_step.ensures.ok

pub invariant_of-self-in_err-dispatch_first : goal.invariant_of-self-in_err-dispatch_first
invariant_of-self-in_err-dispatch_first c = (
  subst IsOfHistory (sym (seen_same c.self.inside.tables c.dispatch_first.new.tables c.in_err-dispatch_first.ensures.err)) c.self.invariant.0,
  c.in_err-dispatch_first.ensures.promise c.self.invariant.1,
)

pub returns-in_err-dispatch_first-clause-err : goal.returns-in_err-dispatch_first-clause-err
returns-in_err-dispatch_first-clause-err c =
    on_err _ _ (seen_same c.self.inside.tables c.dispatch_first.new.tables c.in_err-dispatch_first.ensures.err ∙ c.self.view_is)

pub returns-in_err-dispatch_first-clause-calm : goal.returns-in_err-dispatch_first-clause-calm
returns-in_err-dispatch_first-clause-calm c es s few calm =
    absurd
    (not_idle es c.self.inside.tables.queueing.waiting c.args.now (raw es c.self.inside.tables (subst (IsAfter es) (sym c.self.view_is) s)).knows.queue.waiting_is
    (ap is_some (sym c.first.ensures) ∙ sym (some_copied c.first.result) ∙ c.is_none.ensures ∙ ap not c.if-is_none.false)
    calm)

pub returns-in_err-dispatch_first-clause-pumped : goal.returns-in_err-dispatch_first-clause-pumped
returns-in_err-dispatch_first-clause-pumped c es s few one some =
    absurd (true≢false (sym (c.in_err-dispatch_first.ensures.pumped (subst (λ d. 1 ≤ d.queue.pumps) (sym c.self.view_is) some) c.self.invariant.1)))

pub returns-in_err-dispatch_first-clause-pumps : goal.returns-in_err-dispatch_first-clause-pumps
returns-in_err-dispatch_first-clause-pumps c =
    subst (λ d. d.queue.pumps ≤ c.dispatch_first.new.tables.queueing.pumps + 1) c.self.view_is c.in_err-dispatch_first.ensures.pumps

pub invariant_of-self-2 : goal.invariant_of-self-2
invariant_of-self-2 c = (
  history_on (Pump c.args.now) c.self.inside.tables c.dispatch_first.new.tables
      (makes (Pump c.args.now) Dispatched c.self.inside.tables c.dispatch_first.new.tables
      (if_there _ _
      (ap is_some (sym c.first.ensures) ∙ sym (some_copied c.first.result) ∙ c.is_none.ensures ∙ ap not c.if-is_none.false)
      c.in_ok-dispatch_first.ensures.ok))
      c.self.invariant.0,
  c.in_ok-dispatch_first.ensures.promise c.self.invariant.1,
)

pub returns-clause-ok : goal.returns-clause-ok
returns-clause-ok c =
    answers_on (Pump c.args.now) Dispatched c.self.inside.tables c.dispatch_first.new.tables c.args.self.now c.self.view_is
    (if_there _ _
    (ap is_some (sym c.first.ensures) ∙ sym (some_copied c.first.result) ∙ c.is_none.ensures ∙ ap not c.if-is_none.false)
    c.in_ok-dispatch_first.ensures.ok)

pub returns-clause-pumps : goal.returns-clause-pumps
returns-clause-pumps c =
    subst (λ d. d.queue.pumps ≤ c.dispatch_first.new.tables.queueing.pumps + 1) c.self.view_is c.in_ok-dispatch_first.ensures.pumps

pub returns-in_err-may_step-clause-calm : goal.returns-in_err-may_step-clause-calm
returns-in_err-may_step-clause-calm c es s few calm =
    absurd (true≢false (sym (c.in_err-may_step.ensures.few (counted es c.self.inside.tables c.args.self.now c.self.view_is s few))))

pub returns-in_err-may_step-clause-pumped : goal.returns-in_err-may_step-clause-pumped
returns-in_err-may_step-clause-pumped c es s few one some =
    absurd (true≢false (sym (c.in_err-may_step.ensures.few (counted es c.self.inside.tables c.args.self.now c.self.view_is s few))))
