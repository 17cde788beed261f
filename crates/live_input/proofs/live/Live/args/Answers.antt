-- Args that are ready are delivered.
use Rattle.std.proofs.Common.{◌≡◌, ◌∷◌, ◌++◌, max, [], sym, ap, ◌∙◌, subst}
use Rattle.input_types.specs.DeviceRule.{device_of}
use Rattle.device_table.specs.Table.{is_there}
use Rattle.live_input.specs.Standing.{LiveIs}
use Rattle.live_input.specs.Giving.{Gives}
use Rattle.live_input.specs.State.{LiveState, latest}
use Rattle.live_input.proofs.Handing.{beside_goes, delivers_in, not_there}
use Rattle.live_input.proofs.live.Live.args.Goals as goal

pub returns-then-not-is_there-clause-after : goal.returns-then-not-is_there-clause-after
returns-then-not-is_there-clause-after c = λ ds es h is.
    absurd
    (not_there _ (sym is)
    (sym (ap (λ (s : LiveState). is_there s.devices (device_of c.args.args)) c.self.view_is) ∙ sym (ap (is_there c.self.inside.devices) c.device_of.ensures) ∙ sym c.is_there.ensures
    ∙ c.if-not-is_there.true))

pub returns-in-Ok-clause-after : goal.returns-in-Ok-clause-after
returns-in-Ok-clause-after c = λ ds es h is.
    let at : c.later-now.result ≡ latest c.args.now c.args.self.now =
    c.later-now.ensures ∙ ap (λ (s : LiveState). max c.args.now s.clock) c.self.view_is in
    let there = beside_goes ds es _ (subst (LiveIs ds es) (sym c.self.view_is) h) c.self.inside.devices c.push.new.self.items c.later-now.result in
    subst (λ n. Gives ds n es (c.args.args ∷ []) (c.deliver.new.self.devices ≡ c.args.self.now.devices) c.deliver.result c.args.self.now c.deliver.new.self) at
    (delivers_in ds c.later-now.result es (c.args.args ∷ []) c.push.new.self.items _ c.deliver.result c.args.self.now c.deliver.new.self
    (c.in-Ok.ensures.items ∙ ap (λ (s : LiveState). s.pending ++ c.args.args ∷ []) c.self.view_is)
    (c.deliver.ensures.devices ∙ ap (λ (s : LiveState). s.devices) c.self.view_is)
    c.deliver.ensures.clock
    (c.deliver.ensures.after ds es there))
