-- Sets are equal exactly if their lists are.
use Rattle.pointers_down.proofs.Sets.{same_lists}
use Rattle.pointers_down.proofs.held.is_same.Goals as goal

pub returns : goal.returns
returns c =
    rw (c.bits.ensures, c.bits-2.ensures)
    (same_lists c.args.a c.args.b (rw c.bits.ensures at c.bits.type_inv) (rw c.bits-2.ensures at c.bits-2.type_inv))
