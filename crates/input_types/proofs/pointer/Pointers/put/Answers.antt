-- The ids still rise, since the last one is below that of the pointer.
use Rattle.std.proofs.Common.{sym, subst}
use Rattle.input_types.specs.Pointers.{EndsBelow}
use Rattle.input_types.proofs.Rising.{IsRising-append}
use Rattle.input_types.proofs.pointer.Pointers.put.Goals as goal

pub invariant_of-self : goal.invariant_of-self
invariant_of-self c =
    rw c.push.ensures
    (IsRising-append c.self.inside.list c.args.p c.self.invariant (subst (λ ps. EndsBelow ps c.args.p.id) (sym c.self.view_is) c.requires.rises))
