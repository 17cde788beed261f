use Rattle.std.proofs.Common.{◌≡◌, ◌+◌, drop}
use Rattle.stream_text.specs.OrderHistory.{lane_from}
use Rattle.replay_actors.proofs.order.lane_of.Given as goal

-- the seats that were passed over are not it
abbrev pub invariant-loop-s : goal.invariant-loop-s
invariant-loop-s l = (l.lane ≡ l.s-index + 1) × (lane_from 1 l.seats l.seat ≡ lane_from l.lane (drop l.s-index l.seats) l.seat)
