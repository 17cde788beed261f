-- One channel less, and none.
use Rattle.std.proofs.Common.{◌≡◌, ◌∙◌, ℕ, false, refl, sym, ap, subst, arith}
use Rattle.window_snapshot.specs.Mask.{mask_has}
use Rattle.window_snapshot.proofs.Masks.{mask_has-zero}
use Rattle.dispatch_history.specs.Ordered.{extend}
use Rattle.schedule.specs.Receives.{receives_of}
use Rattle.schedule.specs.State.{HasWith}
use Rattle.schedule.proofs.Masked.{fewer}
use Rattle.schedule.proofs.Taking.{starts, opened_there, goes_on, all_received, all_released}
use Rattle.schedule.proofs.schedule.Schedule.receive_all.Goals as goal

pub loop-rest-init : goal.loop-rest-init
loop-rest-init c =
    record {
      midway = λ how plan es h.
          let before = subst (HasWith how plan es) (sym c.self.view_is) h in
          starts how plan es c.args.self.now c.unfinished-rest.result h (c.unfinished-rest.ensures.live es before.stands) (c.unfinished-rest.ensures.none es before.stands);
      calls = omega arith;
      more = λ es k. k;
      latest = refl;
    }

pub loop-rest-smaller : goal.loop-rest-smaller
loop-rest-smaller c =
    fewer c.loop-rest.rest _ c.mask_without-rest.result c.mask_first-channel.result c.mask_first-channel.ensures.has c.mask_without-rest.ensures.value
    c.mask_without-rest.ensures.channels

pub loop-rest-preserved : goal.loop-rest-preserved
loop-rest-preserved c =
    record {
      midway = λ how plan es h.
          let m = c.loop-rest.invariant.midway how plan es h in
          let gs = extend plan.displays m.fs (receives_of m.fs c.mask_first-channel.result) in
          let took = c.in_ok-receive.ensures.after how plan m.fs m.has in
          let there_is = opened_there how plan es _ c.loop-rest.rest c.mask_first-channel.result c.loop-rest.self m c.mask_first-channel.ensures.has in
          goes_on how plan es _ c.loop-rest.rest c.mask_without-rest.result c.mask_first-channel.result c.loop-rest.self c.drain.new.self m
          c.mask_first-channel.ensures.range.0 c.mask_first-channel.ensures.has c.mask_first-channel.ensures.first c.mask_without-rest.ensures.channels
          (c.in_ok-drain.ensures.after how plan gs took) (c.in_ok-drain.ensures.all how plan gs took there_is)
          (λ n low ne. c.drain.ensures.others n low ne ∙ c.receive.ensures.kept.gone n low);
      calls = omega (arith, c.loop-rest.invariant.calls, c.in_ok-receive.ensures.calls, c.drain.ensures.calls);
      more = λ es k. c.drain.ensures.more.on es (c.receive.ensures.kept.more.on es (c.loop-rest.invariant.more es k));
      latest = c.drain.ensures.more.latest ∙ c.receive.ensures.kept.more.latest ∙ c.loop-rest.invariant.latest;
    }

pub returns-clause-after : goal.returns-clause-after
returns-clause-after c = λ how plan es h.
    let none : c.loop-rest.rest ≡ 0 = omega (arith, c.loop-rest-test.false) in
    let out : (n : ℕ) → mask_has c.loop-rest.rest n ≡ false = λ n. ap (λ m. mask_has m n) none ∙ mask_has-zero n in
    all_received how plan es _ c.loop-rest.rest c.loop-rest.self (c.loop-rest.invariant.midway how plan es h) out

pub returns-clause-released : goal.returns-clause-released
returns-clause-released c = λ how plan es h left.
    let none : c.loop-rest.rest ≡ 0 = omega (arith, c.loop-rest-test.false) in
    let out : (n : ℕ) → mask_has c.loop-rest.rest n ≡ false = λ n. ap (λ m. mask_has m n) none ∙ mask_has-zero n in
    all_released how plan es _ c.loop-rest.rest c.loop-rest.self (c.loop-rest.invariant.midway how plan es h) out left
