use Rattle.std.proofs.Common.{ap, ap₂, ◌&&◌, ◌∙◌}
use Rattle.window_snapshot.specs.Mask.{mask_has}
use Rattle.dispatcher.proofs.DispatchChannels.Picking.{mask_has-and}
use Rattle.dispatcher.proofs.DispatchRound.Reaching.{in_both}
use Rattle.dispatcher.proofs.dispatch_round.concern.listeners.Goals as goal

pub returns : goal.returns
returns c = record {
  are = λ w. mask_has-and c.concerned.result c.live.result w ∙ ap₂ (λ a b. a && b) (c.concerned.ensures w) (ap (λ n. mask_has n w) c.live.ensures.value);
  opened = λ w has. c.live.ensures.opened w (in_both c.concerned.result c.live.result w has).1;
}
