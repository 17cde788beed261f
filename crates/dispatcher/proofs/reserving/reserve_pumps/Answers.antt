-- One channel more has room.
use Rattle.dispatcher.proofs.Room.RoomMade.{same_then, one_more_has}
use Rattle.dispatcher.proofs.reserving.reserve_pumps.Goals as goal

pub channels-preserved : goal.channels-preserved
channels-preserved c = (
  same_then c.args.routing.now c.channels.routing c.reserve_one.new.routing c.channels.invariant.0 c.reserve_one.ensures.same,
  one_more_has c.args.n c.channels.place c.channels.routing c.reserve_one.new.routing c.reserve_one.ensures.same c.channels.invariant.1 c.in_ok-reserve_one.ensures.ok,
)
