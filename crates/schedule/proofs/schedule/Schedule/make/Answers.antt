-- A call leaves messages only in channels that it sends some to; a channel that it removes is drained.
use Rattle.dispatch_history.specs.Legal.{answered}
use Rattle.schedule.proofs.Released.{left_by}
use Rattle.schedule.proofs.Stepping.{lawful_of}
use Rattle.schedule.proofs.schedule.Schedule.make.Goals as goal

pub returns-in-Remove-clause-keeps : goal.returns-in-Remove-clause-keeps
returns-in-Remove-clause-keeps c = λ how plan es h receiving next never all.
    let mid = answered plan.displays c.args.call.now es in
    c.drain_removed.ensures.keeps how plan mid (c.in_ok-apply.ensures.after how plan es h receiving next)
    (left_by plan.displays c.args.call.now es c.args.self.now.dispatcher c.apply.new.self.dispatcher (lawful_of how plan es _ h) never c.apply.ensures.kept.gone all)

pub returns-in_default-clause-keeps : goal.returns-in_default-clause-keeps
returns-in_default-clause-keeps c = λ how plan es h receiving next never all.
    left_by plan.displays c.args.call.now es c.args.self.now.dispatcher c.apply.new.self.dispatcher (lawful_of how plan es _ h) never c.apply.ensures.kept.gone all
