-- A finish, or another call.
use Rattle.std.proofs.Common.{◌≡◌, ◌+◌, refl, sym, subst, arith}
use Rattle.std.specs.Prelude.{OnOk}
use Rattle.dispatch_history.specs.Effect.{past_of}
use Rattle.dispatch_history.specs.Ordered.{scripted, round}
use Rattle.schedule.specs.declared.due.What.{What}
use Rattle.schedule.specs.DueView.{call_of}
use Rattle.schedule.specs.Handing.{single}
use Rattle.schedule.specs.State.{HasWith, ReadyWith}
use Rattle.schedule.proofs.schedule.Schedule.due_round.Goals as goal

pub returns-in-Finish-clause-after : goal.returns-in-Finish-clause-after
returns-in-Finish-clause-after c = λ how plan es r.
    subst (λ (w : What). OnOk c.finish_round.result (ReadyWith how plan (round plan es (single (call_of c.args.at w))) c.finish_round.new.self)) (sym c.in-Finish.is)
    (c.finish_round.ensures.after how plan es r)

pub returns-in-Tick-clause-after : goal.returns-in-Tick-clause-after
returns-in-Tick-clause-after c = λ how plan es r.
    let before = subst (HasWith how plan es) (sym c.self.view_is) r.has in
    let next : c.self.inside.next ≡ 0 + scripted (past_of es) = omega (arith, before.next_is) in
    subst (λ (w : What). OnOk c.round.result (ReadyWith how plan (round plan es (single (call_of c.args.at w))) c.round.new.self)) (sym c.in-Tick.is)
    (c.round.ensures.after how plan es r refl refl refl next)

pub returns-in-Repeat-clause-after : goal.returns-in-Repeat-clause-after
returns-in-Repeat-clause-after c = λ how plan es r.
    let before = subst (HasWith how plan es) (sym c.self.view_is) r.has in
    let next : c.self.inside.next ≡ 0 + scripted (past_of es) = omega (arith, before.next_is) in
    subst (λ (w : What). OnOk c.round-in-Repeat.result (ReadyWith how plan (round plan es (single (call_of c.args.at w))) c.round-in-Repeat.new.self)) (sym c.in-Repeat.is)
    (c.round-in-Repeat.ensures.after how plan es r refl refl refl next)
