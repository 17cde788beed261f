use Rattle.dispatcher.proofs.CancelSynthesis.PointerEnds.{nothing_in}
use Rattle.dispatcher.proofs.cancel_synthesis.state.InputState.new.Goals as goal

pub returns-clause-pointers : goal.returns-clause-pointers
returns-clause-pointers c d = nothing_in c.empty.result c.empty.ensures 8 d
