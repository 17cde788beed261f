use Rattle.dispatch_history.proofs.KeyPlaceLaws.{key_places, keys_down}
use Rattle.dispatch_history.proofs.laws.held_keys.Goals as goal

pub returns : goal.returns
returns c = record { places = key_places; down = keys_down }
