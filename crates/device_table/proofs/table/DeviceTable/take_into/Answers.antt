-- The reader at the place of a device is its own.
use Rattle.std.proofs.Common.{◌∙◌}
use Rattle.std.proofs.Common.{sym, subst}
use Rattle.std.proofs.lemmas.List.{set-get_or}
use Rattle.device_table.specs.Table.{AreNumbered}
use Rattle.device_table.proofs.Places.{numbered_set, reader_device}
use Rattle.device_table.proofs.table.DeviceTable.take_into.Goals.{in-Some, in-None}
use Rattle.device_table.proofs.table.DeviceTable.take_into.Goals as goal

pub take-requires : goal.take-requires
take-requires c =
    reader_device c.self.inside.readers c.args.event.device c.row.result c.index-self-row.result c.in-Some.reader c.self.invariant c.row.ensures.place
    (c.row.ensures.device.0) (c.row.ensures.device.1) c.index-self-row.is (c.index-self-row.is ∙ c.in-Some.is)

pub invariant_of-self : goal.invariant_of-self
invariant_of-self c =
    elim c.match-self-row.branch [
      | in-Some w ↦ rw w.self-inside-is
          (numbered_set c.self.inside.readers c.row.result c.args.event.device w.take.new.self c.self.invariant c.row.ensures.place (c.row.ensures.device.0) (c.row.ensures.device.1)
          (w.take.ensures.device
          ∙ sym (reader_device c.self.inside.readers c.args.event.device c.row.result c.index-self-row.result w.in-Some.reader c.self.invariant c.row.ensures.place
          (c.row.ensures.device.0) (c.row.ensures.device.1) c.index-self-row.is (c.index-self-row.is ∙ w.in-Some.is))))
      | in-None w ↦ rw w.self-inside-is (subst AreNumbered (sym (set-get_or c.self.inside.readers c.row.result c.index-self-row.result)) c.self.invariant)
    ]
