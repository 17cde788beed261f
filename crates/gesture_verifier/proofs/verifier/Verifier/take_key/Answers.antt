-- The due number of the message's key is kept, and those of others stay.
use Rattle.std.proofs.Common.{refl}
use Rattle.gesture_verifier.specs.Told.{Told}
use Rattle.gesture_verifier.proofs.Tables.{key_taken}
use Rattle.gesture_verifier.proofs.verifier.Verifier.take_key.Goals as goal

pub returns : goal.returns
returns c =
    let old : Told =
    record { sets = c.self.inside.down; repeats = c.self.inside.repeats.entries; focus = c.self.inside.focus; accepted = c.self.inside.accepted } in
    rw (← c.self.view_is) (
      key_taken old c.keep.new.table.entries c.args.message.now c.due.result c.in-Some.next c.place-at.ensures.key
          (rw c.place-at.ensures.place at c.due.ensures) c.in-Some.ensures (rw c.place-at.ensures.place at c.in_ok-keep.ensures.kept),
      refl,
    )
