-- The ids still rise, since the last one is below that of the pointer.
use Rattle.std.proofs.Common.{subst, sym}
use Rattle.device_reader.specs.PointerIds.Assigned.{Assignment, EndsBelow}
use Rattle.device_reader.proofs.PointerIds.RisingId.{IsRising-append}
use Rattle.device_reader.proofs.pointer_ids.assigned.Assigned.push.Goals as goal

pub invariant_of-self : goal.invariant_of-self
invariant_of-self c =
    rw c.push.ensures
    (IsRising-append c.self.inside.list c.args.held c.self.invariant
    (subst (λ (s : Assignment). EndsBelow s.pointers c.args.held.id) (sym c.self.view_is) c.requires.rises))
