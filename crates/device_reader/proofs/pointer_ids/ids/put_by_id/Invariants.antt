use Rattle.std.specs.Prelude.{◌≡◌}
use Rattle.device_reader.specs.PointerIds.PointerIds.{by_id}
use Rattle.device_reader.proofs.pointer_ids.ids.put_by_id.Given as goal

-- the pointers with the ids so far
abbrev pub invariant-loop-id : goal.invariant-loop-id
invariant-loop-id l = record {
  listed : l.pointers.pointers ≡ by_id l.id l.named;
  stay : l.pointers.cancelled ≡ l.initial.pointers.cancelled;
}
