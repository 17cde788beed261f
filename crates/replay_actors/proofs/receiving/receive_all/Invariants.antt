use Rattle.std.proofs.Common.{◌≡◌, ℕ, Bool}
use Rattle.dispatch_core.specs.Recorded.{Recorded, history_of}
use Rattle.replay_actors.specs.Settling.{receives_from}
use Rattle.replay_actors.specs.Came.{Came, unreceived}
use Rattle.replay_actors.proofs.receiving.receive_all.Given as goal

abbrev pub invariant-receiving : goal.invariant-receiving
invariant-receiving l = (f : ℕ → Bool) (start : Recorded) → f l.channel ≡ l.finishes → Came f start (receives_from l.channel) l.initial.core → Came f start (receives_from l.channel) l.core

abbrev pub decreases-receiving : goal.decreases-receiving
decreases-receiving l = unreceived l.core.displays (history_of l.core.entries) l.channel
