use Rattle.std.proofs.Common.{◌<◌, ◌≤◌, ◌-◌, true, length, ap, ◌∙◌, arith}
use Rattle.std.proofs.lemmas.List.{get_or_default, length-set}
use Rattle.bits32.specs.Set.{is_in}
use Rattle.input_types.specs.declared.message.Body.TheVariants.{Motion as MotionBody, Focus}
use Rattle.routing_rules.specs.Outgoing.{listing}
use Rattle.dispatcher.specs.DispatchTables.Dues.{due_in}
use Rattle.dispatcher.specs.DispatchChannels.FromOrigin.{body_from}
use Rattle.dispatcher.specs.InputChannel.Moves.{move_of}
use Rattle.dispatcher.proofs.DispatchChannels.Picking.{channel_low}
use Rattle.dispatcher.proofs.DispatchChannels.Wholes.{whole_kept}
use Rattle.dispatcher.proofs.DispatchChannels.Outgoing.{sends_past, tracked_flagged}
use Rattle.dispatcher.proofs.dispatch_channels.channels.Channels.send_moves_past.Goals as goal

pub invariant_of-self : goal.invariant_of-self
invariant_of-self c =
    let live = rw (← c.self.view_is) at c.requires.live in
    let low : 1 ≤ c.args.channel = channel_low c.self.inside.live c.args.channel live in
    let high : c.args.channel ≤ length c.self.inside.channels.items = c.self.invariant.opened_live c.args.channel live in
    let there : c.args.channel - 1 < length c.self.inside.channels.items = omega (arith, low, high) in
    whole_kept c.self.inside.channels.items (length c.self.inside.inputs.items) _ c.self.inside.live c.self.inside.able
    c.self.inside.tracker c.args.channel
    c.count_past.new.self
    c.self.invariant
    (length-set c.self.inside.inputs.items (c.args.channel - 1) c.track_moves.new.self)
    low
    high
    (λ b. ap (due_in b) (c.count_past.ensures (Focus true) 0)
    ∙ ap (due_in b) (c.index_mut-2.ensures.value ∙ get_or_default _ _ _ _ there))

pub returns : goal.returns
returns c = λ flags origin clock.
    let live = rw (← c.self.view_is) at c.requires.live in
    let low : 1 ≤ c.args.channel = channel_low c.self.inside.live c.args.channel live in
    let high : c.args.channel ≤ length c.self.inside.channels.items = c.self.invariant.opened_live c.args.channel live in
    let there : c.args.channel - 1 < length c.self.inside.channels.items = omega (arith, low, high) in
    let within : c.args.channel - 1 < length c.self.inside.inputs.items = omega (arith, low, high, c.self.invariant.as_many) in
    let moving = listing (λ i. is_in i c.args.ids) c.args.pointers.now in
    let body = MotionBody (move_of c.args.device flags moving) in
    rw (← c.self.view_is)
    (sends_past _ c.args.channel body origin clock
    c.index_mut-2.result.now
    c.count_past.new.self
    c.index_mut.result.now
    c.track_moves.new.self
    (c.index_mut-2.ensures.value ∙ get_or_default _ _ _ _ there)
    (c.count_past.ensures (body_from origin body) clock)
    (c.index_mut.ensures.value ∙ get_or_default _ _ _ _ within)
    (tracked_flagged c.args.device flags moving c.index_mut.result.now c.track_moves.new.self c.track_moves.ensures)
    within)
