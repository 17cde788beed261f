use Rattle.std.proofs.Common.{arith}
use Rattle.turnstile.specs.Seats.{view}
use Rattle.window_snapshot.specs.Mask.{mask_has}
use Rattle.replay_actors.specs.Lanes.{receiving, next_channel}
use Rattle.replay_actors.proofs.Calls.{stays_on}
use Rattle.replay_actors.proofs.OwnCalls.{got_none, got_some, next_fits}
use Rattle.replay_actors.proofs.part.Owner.attend.Goals as goal

pub receives-preserved-then-none : goal.receives-preserved-then-none
receives-preserved-then-none g c =
    let old = c.receives.invariant in
    let new = c.in_ok-none.ensures in
    let o = c.args.self.now in (
      new.of,
      stays_on (view c.args.lane.now.seat) (view c.receives.lane.seat) (view c.receive.new.lane.seat) old.1 new.stays,
      got_none c.receives.idle (next_channel o.channels o.number c.receives.channel) c.after-channel.result c.in_ok-none.none
          (receiving (mask_has o.finishing) o.channels o.number (view c.receive.new.lane.seat).mine.own) c.if-none.true c.after-channel.ensures (new.did c.receives.idle old.2),
      omega (arith, old.3, c.if-idle-eq-IDLE.false),
      next_fits o.channels o.number c.receives.channel c.after-channel.result c.requires.few.0 c.requires.few.1 c.after-channel.ensures,
    )

pub receives-preserved : goal.receives-preserved
receives-preserved g c =
    let old = c.receives.invariant in
    let new = c.in_ok-none.ensures in
    let o = c.args.self.now in (
      new.of,
      stays_on (view c.args.lane.now.seat) (view c.receives.lane.seat) (view c.receive.new.lane.seat) old.1 new.stays,
      got_some c.receives.idle (next_channel o.channels o.number c.receives.channel) c.after-channel.result c.in_ok-none.none
          (receiving (mask_has o.finishing) o.channels o.number (view c.receive.new.lane.seat).mine.own) c.if-none.false c.after-channel.ensures (new.did c.receives.idle old.2),
      old.3,
      next_fits o.channels o.number c.receives.channel c.after-channel.result c.requires.few.0 c.requires.few.1 c.after-channel.ensures,
    )
