-- A set of fewer than 32 numbers is not full, and its least free number is found.
use Rattle.std.proofs.Common.{arith, sym, ◌∙◌}
use Rattle.bits32.specs.Set.{is_in}
use Rattle.device_reader.specs.PointerIds.PointerIds.{least_free}
use Rattle.device_reader.proofs.PointerIds.Taken.{full, least_found}
use Rattle.device_reader.proofs.pointer_ids.ids.free_id.Goals as goal

pub unreachable-requires : goal.unreachable-requires
unreachable-requires c = absurd (omega (arith, c.requires, full 32 c.args.taken c.in-None.ensures (omega arith)))

pub returns : goal.returns
unfolding least_free
returns c =
    c.in-Some-new.ensures.value
    ∙ sym (least_found (λ k. is_in k c.args.taken) c.in-Some.n 0 32 (omega arith) (omega (arith, c.in-Some.ensures.below)) c.in-Some.ensures.unmarked c.in-Some.ensures.least)
