use Rattle.std.specs.Prelude.{◌≡◌, ℕ, ◌≤◌, ◌||◌, length, drop}
use Rattle.bits32.specs.Set.{is_in, members}
use Rattle.device_reader.specs.PointerIds.PointerIds.{has_id}
use Rattle.device_reader.proofs.pointer_ids.ids.ids_of.Given as goal

-- the ids that are marked, with those of the contacts that are left, are the ids of all
abbrev pub invariant-loop-contact : goal.invariant-loop-contact
invariant-loop-contact l = record {
  ids : (k : ℕ) → (is_in k l.ids || has_id k (drop l.contact-index l.contacts)) ≡ has_id k l.contacts;
  few : length (members l.ids) ≤ l.contact-index;
}
