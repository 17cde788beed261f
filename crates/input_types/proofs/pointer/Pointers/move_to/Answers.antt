-- The ids rise as before.
use Rattle.std.specs.Prelude.{get_or}
use Rattle.std.proofs.Common.{ap, sym, subst, arith}
use Rattle.input_types.specs.declared.pointer.Pointer.{Pointer}
use Rattle.input_types.specs.Pointers.{IsRising}
use Rattle.input_types.proofs.Rising.{IsRising-set}
use Rattle.input_types.proofs.pointer.Pointers.move_to.Goals as goal

pub invariant_of-self : goal.invariant_of-self
invariant_of-self c =
    let there : Pointer = c.index-as_slice-i.result in
    subst IsRising (sym c.set.ensures)
    (IsRising-set c.self.inside.list c.args.i (record { id = (get_or c.as_slice.result.now c.args.i there).id; at = c.args.at }) there
    (omega (arith, c.if-i-len.true, c.len.ensures.value))
    (ap (λ ps. (get_or ps c.args.i there).id) (sym c.as_slice.ensures.value))
    c.self.invariant)
