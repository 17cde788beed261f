-- The ids still rise, since the last one is below that of the pointer.
use Rattle.std.proofs.Common.{refl}
use Rattle.input_types.proofs.Rising.{IsRising-append}
use Rattle.input_types.proofs.pointer.Pointers.push.Goals as goal

pub invariant_of-self : goal.invariant_of-self
invariant_of-self c =
    rw c.push.ensures
    (IsRising-append c.self.inside.list c.args.p c.self.invariant (rw (← c.as_slice.ensures.value) (c.if-not-ends_below.ensures.0 refl)))
