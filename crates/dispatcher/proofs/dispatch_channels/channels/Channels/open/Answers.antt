use Rattle.std.proofs.Common.{◌≡◌, ◌<◌, ◌+◌, ◌++◌, [], ◌∷◌, length, arith, ap, ap₂, ◌∙◌, length-append}
use Rattle.dispatcher.specs.InputChannel.State.{with_spare}
use Rattle.dispatcher.specs.DispatchChannels.Changes.{new_channel}
use Rattle.dispatcher.proofs.DispatchChannels.Wholes.{whole_opened}
use Rattle.dispatcher.proofs.dispatch_channels.channels.Channels.open.Goals as goal

pub invariant_of-self-2 : goal.invariant_of-self-2
invariant_of-self-2 c =
    let room : length c.self.inside.channels.items < 64 =
    omega (arith, c.self.invariant.few, c.if-len-eq-MOST.false, c.len.ensures, c.self.inside.channels.ok.0) in
    let so : c.push_reserved.new.self.items ≡ c.self.inside.channels.items ++ new_channel c.args.terms ∷ [] =
    c.push_reserved.ensures.items
    ∙ ap₂ (λ xs x. xs ++ x ∷ []) c.in_ok-reserve.ensures.items (c.in_ok-reserve-3.ensures.ok ∙ ap (with_spare 1) c.new-channel.ensures) in
    let size : length c.push_reserved.new.self.items ≡ length c.self.inside.channels.items + 1 =
    ap length so ∙ length-append c.self.inside.channels.items (new_channel c.args.terms ∷ []) in
    let number : c.len-number.result ≡ length c.self.inside.channels.items + 1 =
    omega (arith, c.len-number.ensures, c.push_reserved.new.self.ok.0, size) in
    let also : length c.push_reserved-2.new.self.items ≡ length c.self.inside.inputs.items + 1 =
    ap length (c.push_reserved-2.ensures.items ∙ ap (λ xs. xs ++ c.reserve-4.new.self ∷ []) c.in_ok-reserve-2.ensures.items)
    ∙ length-append c.self.inside.inputs.items (c.reserve-4.new.self ∷ []) in
    rw (c.mask_with-self-inside.ensures, c.mask_with-self-inside-2.ensures)
    (whole_opened c.self.inside.channels.items (length c.self.inside.inputs.items) c.self.inside.live c.self.inside.able c.self.inside.tracker c.args.terms
    c.len-number.result
    c.push_reserved.new.self.items
    (length c.push_reserved-2.new.self.items)
    c.self.invariant
    room
    number
    so
    also)
