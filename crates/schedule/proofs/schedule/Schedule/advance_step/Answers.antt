-- The step was made.
use Rattle.std.proofs.Common.{◌≡◌, ◌+◌, ◌≤◌, sym, subst, arith}
use Rattle.dispatch_history.specs.Effect.{past_of}
use Rattle.dispatch_history.specs.History.{moment_of}
use Rattle.dispatch_history.specs.Ordered.{is_scripted, scripted}
use Rattle.schedule.specs.State.{HasWith}
use Rattle.schedule.proofs.Advancing.{scripted_plain, scripted_unfinished, advances}
use Rattle.schedule.proofs.schedule.Schedule.advance_step.Goals as goal

pub returns-clause-after : goal.returns-clause-after
returns-clause-after c = λ how plan es r step first.
    let p = scripted_plain c.args.call.now step in
    let has = subst (HasWith how plan es) (sym c.self.view_is) r.has in
    let next : c.self.inside.next + 1 ≡ is_scripted c.args.call.now + scripted (past_of es) = omega (arith, has.next_is, step) in
    let le : moment_of c.args.call.now ≤ c.args.until = omega (arith, c.if-get.false, c.get.ensures.value, c.get-2.ensures.value, c.moment.ensures) in
    advances how plan es _ _ c.args.until c.args.call.now r p first le (c.in_ok-round.ensures.after how plan es r p.receives_not p.opens_not (scripted_unfinished c.args.call.now step) next)
