-- Packets whose fingers are those of the packet before, and no palm: they only moved.
use Rattle.std.specs.Prelude.{Bool, true, false, not, ◌&&◌, List, [], ◌∷◌}
use Rattle.std.specs.Ordering.{int_eq}
use Rattle.device_reader.specs.declared.slot_accumulator.contacts.Contact.{Contact}
use Rattle.device_reader.specs.declared.pointer_ids.named.Named.{Named}
use Rattle.device_reader.specs.PointerIds.PointerIds.{named_contact}

-- each contact of a packet is the finger at its place in the packet before
abbrev pub are_same : List Named → List Contact → Bool
are_same [] [] = true
are_same [] (c ∷ cs) = false
are_same (n ∷ ns) [] = false
are_same (n ∷ ns) (c ∷ cs) = (int_eq n.tracking c.tracking && not c.palm) && are_same ns cs

-- the fingers of a packet with the ids of the packet before, one for one
abbrev pub moved : List Named → List Contact → List Named
moved [] cs = []
moved (n ∷ ns) [] = []
moved (n ∷ ns) (c ∷ cs) = named_contact c n.id ∷ moved ns cs
