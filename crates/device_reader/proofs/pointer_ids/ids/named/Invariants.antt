use Rattle.std.specs.Prelude.{◌≡◌, ◌+◌, ◌≤◌, ◌++◌, length, drop}
use Rattle.bits32.specs.Set.{is_in, members}
use Rattle.device_reader.specs.PointerIds.PointerIds.{fingers, named, named_from}
use Rattle.device_reader.proofs.pointer_ids.ids.named.Given as goal

-- the fingers that have their ids, with what is left, are the packet's
abbrev pub invariant-loop-contact : goal.invariant-loop-contact
invariant-loop-contact l = record {
  all : l.named ++ named_from l.before (λ k. is_in k l.taken) (fingers (drop l.contact-index l.now)) ≡ named l.before l.now;
  few : length (members l.taken) ≤ 16 + l.contact-index;
  many : length l.named ≤ l.contact-index;
}
