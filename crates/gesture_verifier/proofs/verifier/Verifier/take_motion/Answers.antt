-- The set of the device of the motion is written, and no other.
use Rattle.std.proofs.Common.{refl, sym, ap, ◌∙◌}
use Rattle.bits32.specs.Set.{members}
use Rattle.input_types.specs.Gestures.{after_sent}
use Rattle.gesture_verifier.specs.Told.{Told}
use Rattle.gesture_verifier.proofs.Tables.{motion_taken}
use Rattle.gesture_verifier.proofs.verifier.Verifier.take_motion.Goals as goal

pub returns-in-Some : goal.returns-in-Some
returns-in-Some c =
    let old : Told =
    record { sets = c.self.inside.down; repeats = c.self.inside.repeats.entries; focus = c.self.inside.focus; accepted = c.self.inside.accepted } in
    rw (← c.self.view_is, c.row-row.ensures.place) (
      motion_taken old c.args.motion.now c.index-self-row.result c.in-Some.held c.row-row.ensures.device c.self.invariant.0
          (rw c.row-row.ensures.place at c.index-self-row.is)
          (c.in-Some.ensures ∙ ap (λ held. after_sent (members held) c.args.motion.now) (sym c.index-self-row.is)),
      refl,
    )
