-- One channel more is opened, before any step of the scripts.
use Rattle.std.proofs.Common.{◌≡◌, ◌+◌, refl, arith}
use Rattle.dispatch_history.specs.Effect.{past_of}
use Rattle.dispatch_history.specs.Ordered.{scripted}
use Rattle.schedule.proofs.schedule.Schedule.open.Goals as goal

pub returns-clause-after : goal.returns-clause-after
returns-clause-after c = λ how plan es h none.
    let next : 0 ≡ 0 + scripted (past_of es) = omega (arith, none) in
    c.make.ensures.after how plan es h refl next
