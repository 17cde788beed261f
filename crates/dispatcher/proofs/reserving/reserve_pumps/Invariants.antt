use Rattle.dispatcher.specs.Tables.{SameButRoom}
use Rattle.dispatcher.proofs.Room.RoomMade.{HaveRoom}
use Rattle.dispatcher.proofs.reserving.reserve_pumps.Given as goal

-- the channels that were looked at have room
abbrev pub invariant-channels : goal.invariant-channels
invariant-channels l = SameButRoom l.initial.routing l.routing × HaveRoom l.n l.place l.routing
