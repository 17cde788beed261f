use Rattle.std.proofs.Common.{IfOk, sym, subst}
use Rattle.dispatcher.specs.Answered.{Answers}
use Rattle.dispatcher.specs.Outcomes.{reply_of}
use Rattle.dispatcher.proofs.Made.Outcomes.{replied_ok}
use Rattle.dispatcher.proofs.dispatcher.Dispatcher.apply.Goals as goal

pub returns-in-Notify-clause-ok : goal.returns-in-Notify-clause-ok
returns-in-Notify-clause-ok c =
    subst (λ r. IfOk r (λ answer. Answers c.args.call.now answer c.args.self.now c.notify.new.self)) (sym c.replied.ensures)
    (replied_ok _ c.notify.result
    (subst (λ call. IfOk c.notify.result (λ outcome. Answers call (reply_of outcome) c.args.self.now c.notify.new.self)) (sym c.in-Notify.is) c.notify.ensures.ok))

pub returns-in-Pump-clause-ok : goal.returns-in-Pump-clause-ok
returns-in-Pump-clause-ok c =
    subst (λ r. IfOk r (λ answer. Answers c.args.call.now answer c.args.self.now c.pump.new.self)) (sym c.replied-in-Pump.ensures)
    (replied_ok _ c.pump.result
    (subst (λ call. IfOk c.pump.result (λ outcome. Answers call (reply_of outcome) c.args.self.now c.pump.new.self)) (sym c.in-Pump.is) c.pump.ensures.ok))

pub returns-in-Finish-clause-ok : goal.returns-in-Finish-clause-ok
returns-in-Finish-clause-ok c =
    subst (λ r. IfOk r (λ answer. Answers c.args.call.now answer c.args.self.now c.finish.new.self)) (sym c.replied-in-Finish.ensures)
    (replied_ok _ c.finish.result
    (subst (λ call. IfOk c.finish.result (λ outcome. Answers call (reply_of outcome) c.args.self.now c.finish.new.self)) (sym c.in-Finish.is) c.finish.ensures.ok))

pub returns-in-Remove-clause-ok : goal.returns-in-Remove-clause-ok
returns-in-Remove-clause-ok c =
    subst (λ r. IfOk r (λ answer. Answers c.args.call.now answer c.args.self.now c.remove.new.self)) (sym c.replied-in-Remove.ensures)
    (replied_ok _ c.remove.result
    (subst (λ call. IfOk c.remove.result (λ outcome. Answers call (reply_of outcome) c.args.self.now c.remove.new.self)) (sym c.in-Remove.is) c.remove.ensures.ok))

pub returns-in-Open-clause-ok : goal.returns-in-Open-clause-ok
returns-in-Open-clause-ok c =
    subst (λ call. IfOk c.open.result (λ answer. Answers call answer c.args.self.now c.open.new.self)) (sym c.in-Open.is) c.open.ensures.ok

pub returns-in-Windows-clause-ok : goal.returns-in-Windows-clause-ok
returns-in-Windows-clause-ok c =
    subst (λ call. IfOk c.show.result (λ answer. Answers call answer c.args.self.now c.show.new.self)) (sym c.in-Windows.is) c.show.ensures.ok

pub returns-in-FocusOn-clause-ok : goal.returns-in-FocusOn-clause-ok
returns-in-FocusOn-clause-ok c =
    subst (λ call. IfOk c.request.result (λ answer. Answers call answer c.args.self.now c.request.new.self)) (sym c.in-FocusOn.is) c.request.ensures.ok

pub returns-in-Tick-clause-ok : goal.returns-in-Tick-clause-ok
returns-in-Tick-clause-ok c =
    subst (λ call. IfOk c.tick.result (λ answer. Answers call answer c.args.self.now c.tick.new.self)) (sym c.in-Tick.is) c.tick.ensures.ok

pub returns-in-Receive-clause-ok : goal.returns-in-Receive-clause-ok
returns-in-Receive-clause-ok c =
    subst (λ call. IfOk c.hand_out.result (λ answer. Answers call answer c.args.self.now c.hand_out.new.self)) (sym c.in-Receive.is) c.hand_out.ensures.ok

pub returns-in-Pilfer-clause-ok : goal.returns-in-Pilfer-clause-ok
returns-in-Pilfer-clause-ok c =
    subst (λ call. IfOk c.pilfer.result (λ answer. Answers call answer c.args.self.now c.pilfer.new.self)) (sym c.in-Pilfer.is) c.pilfer.ensures.ok
