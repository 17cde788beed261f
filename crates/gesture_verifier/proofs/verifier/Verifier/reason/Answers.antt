-- A motion has a reason exactly if it may not come; the ids of a motion rise.
use Rattle.std.proofs.Common.{sym, ap, ◌∙◌, is_some}
use Rattle.gesture_verifier.specs.Reasons.{first_fitting, motion_reasons}
use Rattle.gesture_verifier.specs.Told.{Told, state_of}
use Rattle.gesture_verifier.proofs.Reasons.{motion_exact}
use Rattle.gesture_verifier.proofs.Tables.{kept_at}
use Rattle.gesture_verifier.proofs.verifier.Verifier.reason.Goals as goal

pub returns-in-Motion-clause-exact : goal.returns-in-Motion-clause-exact
returns-in-Motion-clause-exact c =
    let told : Told =
    record { sets = c.self.inside.down; repeats = c.self.inside.repeats.entries; focus = c.self.inside.focus; accepted = c.self.inside.accepted } in
    rw (c.in-Motion.is, ← c.self.view_is) (λ spelled.
    ap is_some ((rw (← c.index-self-row.is) at c.motion_reason.ensures.value)
    ∙ ap (λ ids. first_fitting (motion_reasons ids c.in-Motion.motion))
    (sym (kept_at told.sets c.in-Motion.motion.device c.index-self-row.result c.row.ensures.device c.self.invariant.0
    (rw c.row.ensures.place at c.index-self-row.is))))
    ∙ motion_exact (state_of told) c.in-Motion.motion c.motion_reason.ensures.rises spelled)
