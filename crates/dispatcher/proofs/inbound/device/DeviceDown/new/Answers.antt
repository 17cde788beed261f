-- No pointer is down, and no key.
use Rattle.std.proofs.Common.{◌≡◌, [], ap, ◌∙◌}
use Rattle.bits32.specs.Set.{members}
use Rattle.pointers_down.proofs.Sets.{none_listed}
use Rattle.dispatcher.proofs.inbound.device.DeviceDown.new.Goals as goal

pub returns : goal.returns
returns c i =
    let ids : members c.empty.result ≡ [] = ap members c.empty.ensures ∙ none_listed in
    record { ids = ids i; keys = λ scan. c.in_ok-keys.ensures scan i }
