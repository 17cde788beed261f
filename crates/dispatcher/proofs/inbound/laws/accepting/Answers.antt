-- The laws, each a lemma.
use Rattle.dispatcher.proofs.InboundArgs.Accepting.{accepts, says_down}
use Rattle.dispatcher.proofs.inbound.laws.accepting.Goals as goal

pub returns-clause-accept : goal.returns-clause-accept
returns-clause-accept c = accepts

pub returns-clause-down : goal.returns-clause-down
returns-clause-down c = says_down
