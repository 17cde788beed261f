-- No slot holds a contact at first.
use Rattle.std.specs.Prelude.{pos, negsuc, replicate, int_le}
use Rattle.std.proofs.Common.{ap, arith}
use Rattle.std.proofs.lemmas.List.{get_or-replicate}
use Rattle.device_reader.specs.declared.slot_accumulator.slots.Row.{Row}
use Rattle.device_reader.specs.SlotAccumulator.Table.{is_kept}
use Rattle.device_reader.specs.SlotAccumulator.SlotContacts.{no_row, row_in}
use Rattle.device_reader.proofs.SlotAccumulator.Moving.{none_held}
use Rattle.device_reader.proofs.slot_accumulator.slots.Slots.new.Goals as goal

pub returns-clause-contacts : goal.returns-clause-contacts
returns-clause-contacts c =
    let up : Row = record { tracking = negsuc 0; x = pos 0; y = pos 0; tool = pos 0 } in
    none_held (row_in (replicate 16 up)) (λ t. is_kept c.empty.result t) c.args.slots
    (λ s lt. ap (λ (r : Row). int_le (pos 0) r.tracking) (get_or-replicate {A = Row} 16 s up no_row (omega (arith, lt, c.requires.1))))
