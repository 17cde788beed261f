use Rattle.std.proofs.Common.{◌≡◌, not, take}
use Rattle.bits32.specs.Set.{is_in}
use Rattle.routing_rules.specs.Outgoing.{listing}
use Rattle.split_motion.proofs.listed.part_but.Given as goal

abbrev pub invariant-loop-pointer : goal.invariant-loop-pointer
invariant-loop-pointer l = l.listed ≡ listing (λ i. not (is_in i l.set)) (take l.pointer-index l.pointers)
