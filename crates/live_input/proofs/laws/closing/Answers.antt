use Rattle.live_input.proofs.Leaving.{closed_keys, part_keys}
use Rattle.live_input.proofs.laws.closing.Goals as goal

pub returns : goal.returns
returns c = record { done = closed_keys; part = part_keys }
