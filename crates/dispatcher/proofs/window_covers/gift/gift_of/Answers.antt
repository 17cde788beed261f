use Rattle.std.proofs.Common.{slice_get, sym, ap, ◌∙◌}
use Rattle.window_snapshot.specs.Mask.{mask_has}
use Rattle.dispatcher.specs.WindowCovers.Covers.{option_at}
use Rattle.dispatcher.proofs.window_covers.gift.gift_of.Goals as goal

pub returns-in-Some : goal.returns-in-Some
returns-in-Some c = λ s shown reach. (
  c.found.ensures.device,
  λ w. sym (c.given_windows-windows.ensures w) ∙ ap (λ n. mask_has n w) (sym c.found.ensures.windows),
  c.in-Some.pointer.at,
  ap option_at (ap (λ i. slice_get c.args.motion.now.pointers i) (sym c.from.ensures) ∙ sym c.get.ensures ∙ c.in-Some.is),
  c.found.ensures.found s shown reach,
)
