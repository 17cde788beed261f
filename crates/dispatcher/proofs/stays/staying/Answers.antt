use Rattle.std.proofs.Common.{◌∙◌, ap, ap₂, refl, ◌&&◌, not, List}
use Rattle.std.specs.Prelude.{filter}
use Rattle.window_snapshot.specs.declared.window.Window.{Window}
use Rattle.window_snapshot.specs.Mask.{is_channel, mask_has}
use Rattle.window_snapshot.specs.Named.{is_named}
use Rattle.window_snapshot.proofs.Masks.{mask_has-mask_of}
use Rattle.focus_resolver.proofs.Masks.{mask_has-without}
use Rattle.dispatcher.proofs.Rounds.Missing.{is_gone, stay}
use Rattle.dispatcher.proofs.stays.staying.Goals as goal

pub returns : goal.returns
returns c =
    λ k. mask_has-without c.names.result c.missed.result k c.missed.type_inv
    ∙ ap₂ (λ a b. a && not b)
    (c.names.ensures k)
    (ap (λ m. mask_has m k) c.missed.ensures
    ∙ mask_has-mask_of _ k
    ∙ ap (λ (ws : List Window). is_channel k && is_named (filter (is_gone c.args.next.now) ws) k) c.windows.ensures.windows)
    ∙ stay c.args.before.now c.args.next.now k (is_channel k) refl
