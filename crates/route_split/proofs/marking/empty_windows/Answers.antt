use Rattle.std.proofs.Common.{◌&&◌, ◌+◌, nat_le, set, ◌∙◌}
use Rattle.std.proofs.Math.ListN.{length-set}
use Rattle.touch_state.specs.Touches.{none, nobody}
use Rattle.window_snapshot.specs.Mask.{mask_has}
use Rattle.route_split.proofs.Changing.{none_emptied, one_emptied, all_emptied, tables_after}
use Rattle.route_split.proofs.marking.empty_windows.Goals as goal

pub loop-number-init : goal.loop-number-init
loop-number-init c = (c.requires, λ place. none_emptied c.args.states.now (mask_has c.args.emptied) place c.requires)

pub loop-number-preserved : goal.loop-number-preserved
loop-number-preserved c =
    let all = one_emptied c.args.states.now c.loop-number.states (mask_has c.args.emptied) c.loop-number.number c.index-states-number.result
    c.empty_windows_of.new.state c.loop-number.invariant.0 c.loop-number-test.true c.loop-number.invariant.1 c.empty_windows_of.ensures in (
      tables_after c.args.states.now (set c.loop-number.states c.loop-number.number c.empty_windows_of.new.state) (λ w d i. none w i)
          (λ w d i. nat_le d (c.loop-number.number + 1) && mask_has c.args.emptied w) 0 (λ w d. nobody w) (all 0)
          (length-set c.loop-number.states c.loop-number.number c.empty_windows_of.new.state ∙ c.loop-number.invariant.0.eight),
      all,
    )

pub returns : goal.returns
returns c =
    all_emptied c.args.states.now c.loop-number.states (mask_has c.args.emptied) c.loop-number.number c.loop-number-test.false c.loop-number.invariant.1
