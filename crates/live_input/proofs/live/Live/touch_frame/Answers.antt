-- The report is what ends the packet.
use Rattle.std.proofs.Common.{[], ◌∷◌, Ok, subst}
use Rattle.live_input.specs.Fingers.{TouchGoesAtOnce}
use Rattle.live_input.specs.State.{latest}
use Rattle.live_input.proofs.live.Live.touch_frame.Goals as goal

pub returns-clause-reserved : goal.returns-clause-reserved
returns-clause-reserved c = λ n ds es plan past h st idle.
    let after = c.fingers_of-fingers.result in
    subst (λ k. TouchGoesAtOnce n (latest c.args.now c.args.self.now) es plan past c.args.device (Ok (record { strokes = k ∷ []; after = after })) c.touch.result c.args.self.now c.touch.new.self) c.report.ensures
    (c.touch.ensures.reserved n ds es plan past h st idle)
