use Rattle.std.proofs.Common.{ℕ, ◌&&◌, nat_le}
use Rattle.window_snapshot.specs.Mask.{mask_has}
use Rattle.touch_state.specs.Touches.{none, nobody}
use Rattle.route_split.specs.Tables.{ChangesAll, IsTables}
use Rattle.route_split.proofs.marking.empty_windows.Given as goal

-- it is taken from the devices up to this number
abbrev pub invariant-loop-number : goal.invariant-loop-number
invariant-loop-number l =
    IsTables l.states
    × ((place : ℕ) → ChangesAll l.fn.states l.states (λ w d i. none w i) (λ w d i. nat_le d l.number && mask_has l.emptied w) place (λ w d. nobody w))
