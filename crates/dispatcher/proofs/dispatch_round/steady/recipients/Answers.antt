use Rattle.std.proofs.Common.{ap, ap₂, ◌&&◌, ◌||◌, sym, ◌∙◌}
use Rattle.window_snapshot.specs.Mask.{mask_has}
use Rattle.focus_resolver.proofs.Masks.{mask_has-or}
use Rattle.dispatcher.proofs.DispatchChannels.Picking.{mask_has-and}
use Rattle.dispatcher.proofs.DispatchRound.Reaching.{in_both}
use Rattle.dispatcher.proofs.DispatchRound.Steadily.{steady_concerned}
use Rattle.dispatcher.proofs.dispatch_round.steady.recipients.Goals as goal

pub returns : goal.returns
returns c = record {
  are = λ w.
      mask_has-and _ c.live.result w
      ∙ ap₂ (λ a b. a && b)
      (mask_has-or c.holders.result c.keyed.result w
      ∙ ap₂ (λ a b. a || b) (c.holders.ensures w) (ap (λ n. mask_has n w) c.keyed.ensures)
      ∙ sym (steady_concerned c.args.round.now c.args.touches.now w c.requires))
      (ap (λ n. mask_has n w) c.live.ensures.value);
  opened = λ w has. c.live.ensures.opened w (in_both _ c.live.result w has).1;
}
