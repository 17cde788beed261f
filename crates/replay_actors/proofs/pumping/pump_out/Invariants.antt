use Rattle.std.proofs.Common.{ℕ, Bool}
use Rattle.dispatch_core.specs.Recorded.{Recorded, history_of}
use Rattle.replay_actors.specs.Settling.{pumps_out}
use Rattle.replay_actors.specs.Came.{Came, pumps_left}
use Rattle.replay_actors.proofs.pumping.pump_out.Given as goal

abbrev pub invariant-pumping : goal.invariant-pumping
invariant-pumping l = (f : ℕ → Bool) (start : Recorded) → Came f start pumps_out l.initial.core → Came f start pumps_out l.core

abbrev pub decreases-pumping : goal.decreases-pumping
decreases-pumping l = pumps_left l.core.displays (history_of l.core.entries)
