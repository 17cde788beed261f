-- Keys go to the display of the last request.
use Rattle.std.proofs.Common.{ap, ◌∙◌}
use Rattle.dispatch_history.specs.Effect.{past_of}
use Rattle.dispatch_history.specs.Focus.{focus}
use Rattle.live_input.specs.Asking.{client_of_some}
use Rattle.live_input.specs.State.{LiveState}
use Rattle.live_input.proofs.live.Live.key_target.Goals as goal

pub returns : goal.returns
returns c = λ ds es h.
    c.focused.ensures ds es h
    ∙ ap (λ y. client_of_some c.args.self.now.seats (focus (past_of es) y)) (ap (λ (s : LiveState). s.asked) c.self.view_is ∙ h.requests_are.display_is)
