use Rattle.dispatch_calls.specs.declared.call.Call.TheVariants.{Open}
use Rattle.dispatcher.proofs.Made.Answered.{passed, passed_holds, same_seen, same_holds}
use Rattle.dispatcher.proofs.Made.Applying.{raw}
use Rattle.dispatcher.proofs.Made.Timely.{timely}
use Rattle.std.proofs.Common.{max, refl, ap, ◌∙◌}
use Rattle.dispatcher.proofs.Room.Oks.{on_err}
use Rattle.dispatcher.proofs.dispatcher.Dispatcher.open.Goals as goal

pub open-requires : goal.open-requires
open-requires c =
    let s = c.self.invariant.0 in
    timely _ s.0 c.self.inside.tables.queueing c.self.inside.tables.routing c.zero-now.result c.later-clock.result (raw s.0 c.self.inside.tables s.1) (c.later-clock.ensures ∙ ap (λ n. max c.zero-now.result n) c.clock.ensures)

pub returns-clause-ok : goal.returns-clause-ok
returns-clause-ok c =
    passed c.self.inside.tables c.go_on.new.self c.open.new.routing c.args.self.now c.self.view_is (λ now. Open c.args.terms) c.in_ok-reply.reply c.zero-now.result c.place-place.result c.later-clock.result
    refl
    c.zero-now.ensures
    (c.later-clock.ensures ∙ ap (λ n. max c.zero-now.result n) c.clock.ensures)
    c.place-place.ensures
    c.go_on.ensures
    c.in_ok-reply.ensures.ok

pub invariant_of-self-2 : goal.invariant_of-self-2
invariant_of-self-2 c =
    passed_holds c.self.inside.tables c.go_on.new.self c.open.new.routing c.self.invariant.0 (λ now. Open c.args.terms) c.in_ok-reply.reply c.zero-now.result c.place-place.result c.later-clock.result
    refl
    c.zero-now.ensures
    (c.later-clock.ensures ∙ ap (λ n. max c.zero-now.result n) c.clock.ensures)
    c.place-place.ensures
    c.go_on.ensures
    c.in_ok-reply.ensures.ok

pub returns-in_err-reply-clause-err : goal.returns-in_err-reply-clause-err
returns-in_err-reply-clause-err c = on_err _ _ (same_seen c.self.inside.tables c.open.new.routing c.args.self.now c.self.view_is c.in_err-reply.ensures.err)

pub invariant_of-self : goal.invariant_of-self
invariant_of-self c = same_holds c.self.inside.tables c.open.new.routing c.in_err-reply.ensures.err c.self.invariant.0 c.self.invariant.1
