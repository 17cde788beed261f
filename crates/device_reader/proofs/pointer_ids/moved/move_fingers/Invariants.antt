use Rattle.std.specs.Prelude.{◌≡◌, ◌++◌, take, drop, length}
use Rattle.device_reader.specs.PointerIds.Following.{moved}
use Rattle.device_reader.proofs.pointer_ids.moved.move_fingers.Given as goal

-- the fingers that moved, with those that are left, are all
abbrev pub invariant-loop-i : goal.invariant-loop-i
invariant-loop-i l = record {
  all : take l.i l.named ++ moved (drop l.i l.named) (drop l.i l.contacts) ≡ moved l.initial.named l.contacts;
  count : length l.named ≡ length l.contacts;
}
