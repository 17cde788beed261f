use Rattle.std.proofs.Common.{◌+◌}
use Rattle.window_snapshot.specs.Mask.{mask_has}
use Rattle.replay_actors.specs.Settling.{receives_from}
use Rattle.dispatch_core.specs.Recorded.{IsSound}
use Rattle.replay_actors.specs.Came.{Came}
use Rattle.replay_actors.proofs.settling.settle.Given as goal

abbrev pub invariant-loop-place : goal.invariant-loop-place
invariant-loop-place l = Came (mask_has l.finishing) l.fn.core (receives_from (l.place + 1)) l.core × IsSound l.core
