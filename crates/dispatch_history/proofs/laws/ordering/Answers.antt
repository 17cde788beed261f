use Rattle.dispatch_history.proofs.OrderedLaws.{ordered_sound, ordered_complete, ordered_unique}
use Rattle.dispatch_history.proofs.laws.ordering.Goals as goal

pub returns : goal.returns
returns c = record { sound = ordered_sound; complete = ordered_complete; unique = ordered_unique }
