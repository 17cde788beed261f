-- The reply is that of the service.
use Rattle.std.proofs.Common.{Ok, Err, refl}
use Rattle.plain_calls.proofs.giving.reserve.Goals as goal

pub returns-in-Ok : goal.returns-in-Ok
returns-in-Ok c = (
  Ok c.in-Ok.field-0,
  (refl, record { wanted = c.in-Ok.ensures.wanted; room = c.in-Ok.ensures.room; rest = c.in-Ok.ensures.rest; stands = c.in-Ok.ensures.stands; again = c.in-Ok.ensures.again; err = c.in-Ok.ensures.err }),
)

pub returns-in-Err : goal.returns-in-Err
returns-in-Err c = (
  Err c.in-Err.field-0,
  (refl, record { wanted = c.in-Err.ensures.wanted; room = c.in-Err.ensures.room; rest = c.in-Err.ensures.rest; stands = c.in-Err.ensures.stands; again = c.in-Err.ensures.again; err = c.in-Err.ensures.err }),
)
