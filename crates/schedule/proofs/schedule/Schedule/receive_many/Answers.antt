-- One receive more, and as many as were asked for.
use Rattle.std.proofs.Common.{◌≡◌, ◌∙◌, replicate, subst, arith}
use Rattle.dispatch_history.specs.Ordered.{extend}
use Rattle.dispatch_calls.specs.declared.call.Call.TheVariants.{Receive}
use Rattle.schedule.specs.State.{HasWith}
use Rattle.schedule.proofs.More.{goes_twice}
use Rattle.schedule.proofs.Receiving.{one_receive_more}
use Rattle.schedule.proofs.schedule.Schedule.receive_many.Goals as goal

pub loop-preserved : goal.loop-preserved
loop-preserved c =
    record {
      has = λ how plan es h.
          subst (λ fs. HasWith how plan fs c.receive_next.new.self) (one_receive_more plan.displays es c.args.channel c.loop.counter)
          (c.in_ok-receive_next.ensures.after how plan _ (c.loop.invariant.has how plan es h));
      gone = λ k low. c.receive_next.ensures.kept.gone k low ∙ c.loop.invariant.gone k low;
      calls = omega (arith, c.loop.invariant.calls, c.in_ok-receive_next.ensures.calls);
      more = goes_twice c.receive_next.ensures.kept.more c.loop.invariant.more;
    }

pub returns-clause-after : goal.returns-clause-after
returns-clause-after c = λ how plan es h.
    let all : c.loop.counter ≡ c.args.count = omega (arith, c.loop-test.false, c.loop.auto.counter-end) in
    subst (λ n. HasWith how plan (extend plan.displays es (replicate n (Receive c.args.channel))) c.loop.self) all (c.loop.invariant.has how plan es h)
