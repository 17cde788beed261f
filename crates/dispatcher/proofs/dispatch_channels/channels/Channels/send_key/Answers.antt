use Rattle.std.proofs.Common.{◌<◌, ◌≤◌, ◌-◌, length, refl, ap, ◌∙◌, arith}
use Rattle.std.proofs.lemmas.List.{get_or_default, length-set}
use Rattle.input_types.specs.declared.message.Body.TheVariants.{Key as KeyBody}
use Rattle.dispatcher.specs.DispatchTables.Dues.{due_in}
use Rattle.dispatcher.proofs.DispatchChannels.Picking.{channel_low}
use Rattle.dispatcher.proofs.DispatchChannels.Wholes.{whole_kept}
use Rattle.dispatcher.proofs.DispatchChannels.Outgoing.{sends}
use Rattle.dispatcher.proofs.dispatch_channels.channels.Channels.send_key.Goals as goal

pub invariant_of-self : goal.invariant_of-self
invariant_of-self c =
    let live = rw (← c.self.view_is) at c.requires.live in
    let low : 1 ≤ c.args.channel = channel_low c.self.inside.live c.args.channel live in
    let high : c.args.channel ≤ length c.self.inside.channels.items = c.self.invariant.opened_live c.args.channel live in
    let there : c.args.channel - 1 < length c.self.inside.channels.items = omega (arith, low, high) in
    whole_kept c.self.inside.channels.items (length c.self.inside.inputs.items) _ c.self.inside.live c.self.inside.able c.self.inside.tracker c.args.channel
    c.enqueue_key.new.self
    c.self.invariant
    (length-set c.self.inside.inputs.items (c.args.channel - 1) c.track_key.new.self)
    low
    high
    (λ b. ap (due_in b) c.enqueue_key.ensures ∙ ap (due_in b) (c.index_mut.ensures.value ∙ get_or_default _ _ _ _ there))

pub returns : goal.returns
returns c origin =
    let live = rw (← c.self.view_is) at c.requires.live in
    let low : 1 ≤ c.args.channel = channel_low c.self.inside.live c.args.channel live in
    let high : c.args.channel ≤ length c.self.inside.channels.items = c.self.invariant.opened_live c.args.channel live in
    let there : c.args.channel - 1 < length c.self.inside.channels.items = omega (arith, low, high) in
    let within : c.args.channel - 1 < length c.self.inside.inputs.items = omega (arith, low, high, c.self.invariant.as_many) in
    rw (← c.self.view_is)
    (sends _ c.args.channel (KeyBody c.args.message.now) (KeyBody c.args.message.now) origin c.args.clock
    c.index_mut.result.now
    c.enqueue_key.new.self
    c.index_mut-2.result.now
    c.track_key.new.self
    (c.index_mut.ensures.value ∙ get_or_default _ _ _ _ there)
    refl
    c.enqueue_key.ensures
    (c.index_mut-2.ensures.value ∙ get_or_default _ _ _ _ within)
    c.track_key.ensures
    within)
