use Rattle.key_layout.proofs.Numbers.{past_room}
use Rattle.key_layout.proofs.text.number.Goals as goal

pub returns-then-n-gt65535 : goal.returns-then-n-gt65535
returns-then-n-gt65535 c =
    past_room c.args.base c.loop-b.n c.loop-b.b-index c.value_of-digit.result c.args.digits.now c.requires.low c.loop-b-test.true c.value_of-digit.ensures c.loop-b.invariant.value (rw (c.from.ensures, c.from-in-loop-b.ensures) at c.if-n-gt65535.true)
