-- One message after another is recorded.
use Rattle.std.proofs.Common.{◌+◌, ◌<◌, arith}
use Rattle.live_input.proofs.Noted.{at_above, remembers_more, remembers_on}
use Rattle.live_input.proofs.steps.Recent.publish.Goals as goal

pub loop-self-init : goal.loop-self-init
loop-self-init c = record { low = omega arith; high = omega arith; steps = λ at m. remembers_on at c.args.step c.args.self.now m }

pub loop-self-preserved : goal.loop-self-preserved
loop-self-preserved c =
    let i = c.loop-self.invariant in
    let low = i.low in
    let high = i.high in
    let test = c.loop-self-test.true in
    let more = c.put.ensures.published in
    let above : c.args.self.now.published < c.loop-self.self.published + 1 = omega (arith, low) in
    record {
      low = omega (arith, low, more);
      high = omega (arith, high, more, test);
      steps = λ at m.
          remembers_more _ c.args.step c.loop-self.self c.put.new.self (i.steps at m)
          (at_above at c.args.self.now.published c.args.step (c.loop-self.self.published + 1) above) more c.put.ensures.steps;
    }
