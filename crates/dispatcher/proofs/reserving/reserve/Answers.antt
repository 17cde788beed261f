-- Where the room for pumps was not had, there is as much as before.
use Rattle.dispatcher.proofs.Room.Roomy.{same_room}
use Rattle.dispatcher.proofs.reserving.reserve.Goals as goal

pub returns-in_err-reserve_pumps-clause-promise : goal.returns-in_err-reserve_pumps-clause-promise
returns-in_err-reserve_pumps-clause-promise c keeps some =
    same_room _ c.args.tables.now.routing c.reserve_pumps.new.routing c.reserve_pumps.ensures.same (keeps some)
