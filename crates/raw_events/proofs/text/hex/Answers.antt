use Rattle.std.proofs.Common.{◌<◌, arith}
use Rattle.raw_events.proofs.Numbers.{hex_room}
use Rattle.raw_events.proofs.text.hex.Goals as goal

pub overflow_mul-n : goal.overflow_mul-n
overflow_mul-n c =
    let place : c.loop-b.b-index < 8 = omega arith in
    omega (arith, hex_room c.loop-b.n c.loop-b.b-index place c.loop-b.invariant.bound)

pub overflow_add-n : goal.overflow_add-n
overflow_add-n c =
    let place : c.loop-b.b-index < 8 = omega arith in
    omega (arith, hex_room c.loop-b.n c.loop-b.b-index place c.loop-b.invariant.bound)
