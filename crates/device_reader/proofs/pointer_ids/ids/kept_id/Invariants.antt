use Rattle.std.specs.Prelude.{◌≡◌, drop}
use Rattle.device_reader.specs.PointerIds.PointerIds.{id_in}
use Rattle.device_reader.proofs.pointer_ids.ids.kept_id.Given as goal

-- the contacts so far have another tracking id
abbrev pub invariant-loop-earlier : goal.invariant-loop-earlier
invariant-loop-earlier l = id_in l.contact.tracking (drop l.earlier-index l.before) ≡ id_in l.contact.tracking l.before
