use Rattle.std.proofs.Common.{◌≡◌, ◌+◌, subst, arith}
use Rattle.std.specs.Prelude.{if◌then◌else◌}
use Rattle.turnstile.specs.Seats.{view}
use Rattle.replay_actors.specs.Lanes.{pumping, pumps}
use Rattle.replay_actors.proofs.Calls.{stays_on}
use Rattle.replay_actors.proofs.answered.dispatch.Goals as goal

pub pumps-preserved-then-branch : goal.pumps-preserved-then-branch
pumps-preserved-then-branch g c =
    let old = c.pumps.invariant in
    let new = c.in_ok-pump.ensures in (
      new.of,
      stays_on (view c.args.lane.now.seat) (view c.pumps.lane.seat) (view c.pump.new.lane.seat) old.1 new.stays,
      subst (λ b. pumping (view c.pump.new.lane.seat).mine.own ≡ pumps (if b then c.pumps.idle + 1 else c.pumps.idle)) c.if-branch.true (new.did c.pumps.idle old.2),
      omega (arith, old.3, c.if-idle-eq-IDLE.false),
    )

pub pumps-preserved : goal.pumps-preserved
pumps-preserved g c =
    let old = c.pumps.invariant in
    let new = c.in_ok-pump.ensures in (
      new.of,
      stays_on (view c.args.lane.now.seat) (view c.pumps.lane.seat) (view c.pump.new.lane.seat) old.1 new.stays,
      subst (λ b. pumping (view c.pump.new.lane.seat).mine.own ≡ pumps (if b then c.pumps.idle + 1 else c.pumps.idle)) c.if-branch.false (new.did c.pumps.idle old.2),
      old.3,
    )
