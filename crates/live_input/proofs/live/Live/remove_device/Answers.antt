-- The device gives a reset, and is gone.
use Rattle.std.proofs.Common.{◌≡◌, max, ◌-◌, ◌∷◌, ◌++◌, [], None, slice_set, sym, ap, ◌∙◌, subst}
use Rattle.input_types.specs.declared.message.Args.TheVariants.{Reset}
use Rattle.device_table.specs.Table.{is_there}
use Rattle.live_input.specs.Standing.{LiveIs}
use Rattle.live_input.specs.Giving.{Gives}
use Rattle.live_input.specs.State.{LiveState, latest}
use Rattle.live_input.proofs.Handing.{beside_goes, delivers_in, not_there}
use Rattle.live_input.proofs.live.Live.remove_device.Goals as goal

pub returns-then-not-is_there-clause-after : goal.returns-then-not-is_there-clause-after
returns-then-not-is_there-clause-after c = λ ds es h is.
    absurd
    (not_there _ (sym is)
    (sym (ap (λ (s : LiveState). is_there s.devices c.args.device) c.self.view_is) ∙ sym c.is_there.ensures ∙ c.if-not-is_there.true))

pub returns-in-Ok-clause-after : goal.returns-in-Ok-clause-after
returns-in-Ok-clause-after c = λ ds es h is.
    let at : c.later-now.result ≡ latest c.args.now c.args.self.now =
    c.later-now.ensures ∙ ap (λ (s : LiveState). max c.args.now s.clock) c.self.view_is in
    let there = beside_goes ds es _ (subst (LiveIs ds es) (sym c.self.view_is) h) c.remove.new.self c.push.new.self.items c.later-now.result in
    subst (λ n. Gives ds n es (Reset c.args.device ∷ []) (c.deliver.new.self.devices ≡ slice_set c.args.self.now.devices (c.args.device - 1) None)
    c.deliver.result c.args.self.now c.deliver.new.self) at
    (delivers_in ds c.later-now.result es (Reset c.args.device ∷ []) c.push.new.self.items _ c.deliver.result c.args.self.now c.deliver.new.self
    (c.in-Ok.ensures.items ∙ ap (λ (s : LiveState). s.pending ++ Reset c.args.device ∷ []) c.self.view_is)
    (c.deliver.ensures.devices ∙ c.remove.ensures ∙ ap (λ (s : LiveState). slice_set s.devices (c.args.device - 1) None) c.self.view_is)
    c.deliver.ensures.clock
    (c.deliver.ensures.after ds es there))
