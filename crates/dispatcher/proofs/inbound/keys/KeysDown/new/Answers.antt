-- All sets are empty.
use Rattle.std.proofs.Common.{ap, ◌∙◌}
use Rattle.dispatcher.specs.InboundArgs.Keys.{has_key}
use Rattle.dispatcher.proofs.InboundArgs.KeySets.{none_down}
use Rattle.dispatcher.proofs.inbound.keys.KeysDown.new.Goals as goal

pub returns : goal.returns
returns c scan = ap (λ sets. has_key sets scan) c.in_ok-sets.ensures ∙ none_down 2048 scan
