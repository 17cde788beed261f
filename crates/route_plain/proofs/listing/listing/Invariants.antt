use Rattle.std.proofs.Common.{◌≡◌, take}
use Rattle.bits32.specs.Set.{is_in}
use Rattle.routing_rules.specs.Outgoing.{listing}
use Rattle.route_plain.proofs.listing.listing.Given as goal

abbrev pub invariant-loop-pointer : goal.invariant-loop-pointer
invariant-loop-pointer l = l.listed ≡ listing (λ i. is_in i l.set) (take l.pointer-index l.pointers)
