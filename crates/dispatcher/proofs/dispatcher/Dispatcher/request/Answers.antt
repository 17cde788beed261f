use Rattle.std.proofs.lemmas.Bool.{true≢false}
use Rattle.dispatch_calls.specs.declared.call.Call.TheVariants.{FocusOn}
use Rattle.dispatcher.proofs.Made.Answered.{passed, passed_holds, same_seen, same_holds, counted}
use Rattle.dispatcher.proofs.Made.Applying.{raw}
use Rattle.dispatcher.proofs.Laws.Stepped.{calm_request}
use Rattle.dispatcher.proofs.Made.Timely.{timely}
use Rattle.dispatcher.specs.Dispatching.{IsAfter}
use Rattle.std.proofs.Common.{max, refl, ap, sym, subst, ◌∙◌}
use Rattle.dispatcher.proofs.Room.Oks.{on_err}
use Rattle.dispatcher.proofs.dispatcher.Dispatcher.request.Goals as goal

pub request-requires : goal.request-requires
request-requires c =
    let s = c.self.invariant.0 in
    timely _ s.0 c.self.inside.tables.queueing c.self.inside.tables.routing c.args.now c.later-clock.result (raw s.0 c.self.inside.tables s.1) (c.later-clock.ensures ∙ ap (λ n. max c.args.now n) c.clock.ensures)

pub returns-clause-ok : goal.returns-clause-ok
returns-clause-ok c =
    passed c.self.inside.tables c.go_on.new.self c.request.new.routing c.args.self.now c.self.view_is (λ now. FocusOn now c.args.display c.args.channel c.args.keys) c.in_ok-reply.reply c.args.now c.place-place.result c.later-clock.result
    refl
    refl
    (c.later-clock.ensures ∙ ap (λ n. max c.args.now n) c.clock.ensures)
    c.place-place.ensures
    c.go_on.ensures
    c.in_ok-reply.ensures.ok

pub invariant_of-self-2 : goal.invariant_of-self-2
invariant_of-self-2 c =
    passed_holds c.self.inside.tables c.go_on.new.self c.request.new.routing c.self.invariant.0 (λ now. FocusOn now c.args.display c.args.channel c.args.keys) c.in_ok-reply.reply c.args.now c.place-place.result c.later-clock.result
    refl
    refl
    (c.later-clock.ensures ∙ ap (λ n. max c.args.now n) c.clock.ensures)
    c.place-place.ensures
    c.go_on.ensures
    c.in_ok-reply.ensures.ok

pub returns-in_err-reply-clause-err : goal.returns-in_err-reply-clause-err
returns-in_err-reply-clause-err c = on_err _ _ (same_seen c.self.inside.tables c.request.new.routing c.args.self.now c.self.view_is c.in_err-reply.ensures.err)

pub invariant_of-self : goal.invariant_of-self
invariant_of-self c = same_holds c.self.inside.tables c.request.new.routing c.in_err-reply.ensures.err c.self.invariant.0 c.self.invariant.1

pub returns-in_err-reply-clause-calm : goal.returns-in_err-reply-clause-calm
returns-in_err-reply-clause-calm c es s few calm =
    absurd (true≢false (sym (c.in_err-reply.ensures.calm (calm_request es c.self.inside.tables.queueing c.self.inside.tables.routing c.args.now c.args.display c.args.channel c.args.keys (raw es c.self.inside.tables (subst (IsAfter es) (sym c.self.view_is) s)) calm))))

pub returns-in_err-may_step-clause-calm : goal.returns-in_err-may_step-clause-calm
returns-in_err-may_step-clause-calm c es s few calm =
    absurd (true≢false (sym (c.in_err-may_step.ensures.few (counted es c.self.inside.tables c.args.self.now c.self.view_is s few))))
