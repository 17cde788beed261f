use Rattle.std.proofs.Common.{◌≡◌, ◌-◌, ◌<◌, arith, length}
use Rattle.replay_actors.proofs.Dealing.{one_dealt}
use Rattle.replay_actors.proofs.scripts.deal.Goals as goal

pub returns-in_ok-push-clause-dealt : goal.returns-in_ok-push-clause-dealt
returns-in_ok-push-clause-dealt c =
    let from : c.from-place.result ≡ c.args.step.lane = c.from-place.ensures in
    let within : c.from-place.result - 1 < length c.args.scripts.now.items = omega (arith, c.if-place-ge1.true, c.if-place-len.true, c.len.ensures) in
    λ k lt. one_dealt c.args.scripts.now.items (c.from-place.result - 1) c.push.new.self c.index_mut.result.now c.args.step within c.index_mut.ensures.value c.in_ok-push.ensures.items
    (omega (arith, from, c.if-place-ge1.true)) k
