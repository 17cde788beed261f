use Rattle.dispatcher.proofs.CancelSynthesis.PointerEnds.{pointers_end, cancels_law}
use Rattle.dispatcher.proofs.CancelSynthesis.KeyEnds.{keys_end, device_keys_end}
use Rattle.dispatcher.proofs.cancel_synthesis.laws.cancelling.Goals as goal

pub returns-clause-pointers : goal.returns-clause-pointers
returns-clause-pointers c = pointers_end

pub returns-clause-keys : goal.returns-clause-keys
returns-clause-keys c = keys_end

pub returns-clause-device_keys : goal.returns-clause-device_keys
returns-clause-device_keys c = device_keys_end

pub returns-clause-rules : goal.returns-clause-rules
returns-clause-rules c = cancels_law
