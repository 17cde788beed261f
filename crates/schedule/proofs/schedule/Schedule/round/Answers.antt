-- One call, and all that is published is received.
use Rattle.std.proofs.Common.{◌∙◌}
use Rattle.dispatch_history.specs.Legal.{answered}
use Rattle.schedule.proofs.Going.{first_call, ready_again, on_ok_both}
use Rattle.schedule.proofs.Stepping.{lawful_of}
use Rattle.schedule.proofs.schedule.Schedule.round.Goals as goal

pub returns-clause-after : goal.returns-clause-after
returns-clause-after c = λ how plan es r receiving opening finishing next.
    let has = c.in_ok-make.ensures.after how plan es r.has receiving next in
    let mid = answered plan.displays c.args.call.now es in
    on_ok_both c.receive_all.result _ _ _ (c.receive_all.ensures.after how plan mid has) (c.receive_all.ensures.released how plan mid has (c.in_ok-make.ensures.keeps how plan es r.has receiving next finishing r.all_released))
    (λ all released.
    ready_again how plan es mid c.receive_all.new.self (first_call plan.displays es c.args.call.now (lawful_of how plan es _ r.has) r.caught opening) r.opened_is all released)

pub returns-clause-more : goal.returns-clause-more
returns-clause-more c =
    record {
      on = λ es k. c.receive_all.ensures.more es (c.make.ensures.more.on es k);
      latest = c.receive_all.ensures.latest ∙ c.make.ensures.more.latest;
    }
