-- The service in the handle makes the room.
use Rattle.std.proofs.Common.{subst}
use Rattle.plain_calls.specs.Calling.{Replies}
use Rattle.plain_calls.specs.Driving.{Reserved}
use Rattle.plain_calls.specs.Replies.{reserve_status}
use Rattle.inputflinger_c.proofs.Looking.{called_on}
use Rattle.inputflinger_c.proofs.live_giving.inputflinger_proved_live_reserve.Goals as goal

pub returns : goal.returns
returns c =
    called_on _ _ _ _ c.in-Some.service.value c.reserve-status.new.live _ c.in-Some.ensures.taken c.put.ensures
    (subst (λ s. Replies reserve_status c.reserve-status.result (Reserved c.args.events s c.reserve-status.new.live)) c.deref_mut.ensures.value c.reserve-status.ensures)
