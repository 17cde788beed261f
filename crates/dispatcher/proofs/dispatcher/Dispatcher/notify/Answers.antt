use Rattle.std.proofs.lemmas.Bool.{true≢false}
use Rattle.dispatch_calls.specs.declared.call.Call.TheVariants.{Notify}
use Rattle.dispatch_calls.specs.declared.reply.Reply.TheVariants.{Taken}
use Rattle.dispatcher.proofs.Made.Answered.{answers_on, as_promised, counted, history_on, makes}
use Rattle.dispatcher.proofs.Made.Applying.{seen}
use Rattle.dispatcher.proofs.Made.Notifying.{accepted_on, refused_on}
use Rattle.dispatcher.specs.Answered.{Answers}
use Rattle.dispatcher.specs.Dispatching.{IsOfHistory}
use Rattle.dispatcher.specs.Roomy.{KeepsPromise}
use Rattle.std.proofs.Common.{◌≤◌, ap, sym, ◌∙◌, subst}
use Rattle.dispatcher.proofs.Room.Oks.{on_err}
use Rattle.dispatcher.proofs.dispatcher.Dispatcher.notify.Goals as goal

pub returns-in_ok-accept-in-Ok-clause-ok : goal.returns-in_ok-accept-in-Ok-clause-ok
returns-in_ok-accept-in-Ok-clause-ok c =
    answers_on (Notify c.args.now c.args.args.now) Taken c.self.inside.tables _ c.args.self.now c.self.view_is
    (accepted_on c.self.inside.tables c.accept.new.self c.args.now c.args.args.now c.in-Ok.change c.in-Ok.ensures.plan
    c.in-Ok.ensures.device.0
    c.in-Ok.ensures.device.1
    c.rises.ensures
    c.in_ok-accept-in-Ok.ensures.ok
    c.in_ok-accept-in-Ok.ensures.spare)

pub invariant_of-self-in-Ok : goal.invariant_of-self-in-Ok
invariant_of-self-in-Ok c = (
  history_on (Notify c.args.now c.args.args.now) c.self.inside.tables _
      (makes (Notify c.args.now c.args.args.now) Taken c.self.inside.tables _
      (accepted_on c.self.inside.tables c.accept.new.self c.args.now c.args.args.now c.in-Ok.change c.in-Ok.ensures.plan
      c.in-Ok.ensures.device.0
      c.in-Ok.ensures.device.1
      c.rises.ensures
      c.in_ok-accept-in-Ok.ensures.ok
      c.in_ok-accept-in-Ok.ensures.spare))
      c.self.invariant.0,
  as_promised _ _ c.self.inside.tables.routing c.in_ok-accept-in-Ok.ensures.pumps c.self.invariant.1,
)

pub returns-in-Err-clause-ok : goal.returns-in-Err-clause-ok
returns-in-Err-clause-ok c =
    subst (λ a. Answers (Notify c.args.now c.args.args.now) a c.args.self.now (seen (record c.self.inside.tables { queueing = c.step.new.self })))
    (sym c.refusal-outcome.ensures.reply)
    (answers_on (Notify c.args.now c.args.args.now) _ c.self.inside.tables _ c.args.self.now c.self.view_is
    (refused_on c.self.inside.tables c.step.new.self c.args.now c.args.args.now c.in-Err.refused
    c.in-Err.ensures.plan
    c.in-Err.ensures.device.0
    c.in-Err.ensures.device.1
    c.rises.ensures
    c.refusal-outcome.ensures.small
    c.step.ensures))

pub invariant_of-self-in-Err : goal.invariant_of-self-in-Err
invariant_of-self-in-Err c = (
  history_on (Notify c.args.now c.args.args.now) c.self.inside.tables _
      (makes (Notify c.args.now c.args.args.now) _ c.self.inside.tables _
      (refused_on c.self.inside.tables c.step.new.self c.args.now c.args.args.now c.in-Err.refused
      c.in-Err.ensures.plan
      c.in-Err.ensures.device.0
      c.in-Err.ensures.device.1
      c.rises.ensures
      c.refusal-outcome.ensures.small
      c.step.ensures))
      c.self.invariant.0,
  as_promised _ _ c.self.inside.tables.routing (ap (λ q. q.pumps) c.step.ensures) c.self.invariant.1,
)

pub returns-in_err-accept-in-Ok-clause-reserved : goal.returns-in_err-accept-in-Ok-clause-reserved
returns-in_err-accept-in-Ok-clause-reserved c es s few one room =
    absurd (true≢false (sym (c.in_err-accept-in-Ok.ensures.reserved (subst (λ d. 1 ≤ d.queue.spare) (sym c.self.view_is) room))))

pub returns-in_err-may_step-clause-reserved : goal.returns-in_err-may_step-clause-reserved
returns-in_err-may_step-clause-reserved c es s few one room =
    absurd (true≢false (sym (c.in_err-may_step.ensures.few (counted es c.self.inside.tables c.args.self.now c.self.view_is s few))))

pub invariant_of-self : goal.invariant_of-self
invariant_of-self c =
    let t = c.self.inside.tables in
    subst (λ q. IsOfHistory (seen (record t { queueing = q })) × KeepsPromise (record t { queueing = q })) (sym c.in_err-accept-in-Ok.ensures.err) c.self.invariant

pub returns-in_err-accept-in-Ok-clause-err : goal.returns-in_err-accept-in-Ok-clause-err
returns-in_err-accept-in-Ok-clause-err c =
    on_err _ _ (ap (λ q. seen (record c.self.inside.tables { queueing = q })) c.in_err-accept-in-Ok.ensures.err ∙ c.self.view_is)

pub returns-in_err-accept-in-Ok-clause-pumps : goal.returns-in_err-accept-in-Ok-clause-pumps
returns-in_err-accept-in-Ok-clause-pumps c = c.in_err-accept-in-Ok.ensures.pumps ∙ ap (λ d. d.queue.pumps) c.self.view_is

pub returns-in_ok-accept-in-Ok-clause-pumps : goal.returns-in_ok-accept-in-Ok-clause-pumps
returns-in_ok-accept-in-Ok-clause-pumps c = c.in_ok-accept-in-Ok.ensures.pumps ∙ ap (λ d. d.queue.pumps) c.self.view_is

pub returns-in-Err-clause-pumps : goal.returns-in-Err-clause-pumps
returns-in-Err-clause-pumps c = ap (λ q. q.pumps) c.step.ensures ∙ ap (λ d. d.queue.pumps) c.self.view_is
