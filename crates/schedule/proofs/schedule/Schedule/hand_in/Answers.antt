-- The args are handed in and dispatched, and all that is published is received.
use Rattle.std.proofs.Common.{refl, ◌∙◌}
use Rattle.dispatch_calls.specs.declared.call.Call.TheVariants.{Notify, Pump}
use Rattle.dispatch_history.specs.Legal.{answered}
use Rattle.schedule.proofs.Going.{first_call, second_call, clock_twice, ready_again, on_ok_both}
use Rattle.schedule.proofs.Stepping.{lawful_of}
use Rattle.schedule.proofs.schedule.Schedule.hand_in.Goals as goal

pub returns-clause-after : goal.returns-clause-after
returns-clause-after c = λ how plan es r.
    let t = c.args.moment in
    let a = c.args.args.now in
    let one = answered plan.displays (Notify t a) es in
    let two = answered plan.displays (Pump t) one in
    let l = lawful_of how plan es _ r.has in
    let first = first_call plan.displays es (Notify t a) l r.caught refl in
    let left = c.in_ok-notify_and_pump.ensures.keeps how plan es r in
    let both = c.in_ok-notify_and_pump.ensures.after how plan es r.has in
    on_ok_both c.receive_all.result _ _ _ (c.receive_all.ensures.after how plan two both) (c.receive_all.ensures.released how plan two both left)
    (λ all released.
    ready_again how plan es two c.receive_all.new.self (second_call plan.displays es one (Pump t) first refl (clock_twice t es plan.displays a)) r.opened_is all released)

pub returns-clause-more : goal.returns-clause-more
returns-clause-more c =
    record {
      on = λ es k. c.receive_all.ensures.more es (c.notify_and_pump.ensures.more.on es k);
      latest = c.receive_all.ensures.latest ∙ c.notify_and_pump.ensures.more.latest;
    }
