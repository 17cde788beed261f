use Rattle.std.proofs.Common.{◌<◌, ◌≤◌, ◌-◌, length, refl, sym, ap, ◌∙◌, subst, arith}
use Rattle.std.proofs.lemmas.List.{get_or_default, get_or-set_same, length-set}
use Rattle.std.proofs.lemmas.Result.{on_ok_weaker}
use Rattle.dispatcher.specs.InputChannel.State.{ChannelState}
use Rattle.dispatcher.specs.CancelSynthesis.Tracked.{Tracked}
use Rattle.dispatcher.specs.DispatchTables.Dues.{due_in}
use Rattle.dispatcher.specs.DispatchChannels.Table.{Table, unsent}
use Rattle.dispatcher.proofs.DispatchChannels.Wholes.{channel_set_same, whole_kept}
use Rattle.dispatcher.proofs.DispatchChannels.Outgoing.{spare_in_channel, spare_in_both, more_in_channel, more_in_both}
use Rattle.dispatcher.proofs.dispatch_channels.channels.Channels.count_room.Goals as goal

pub invariant_of-self : goal.invariant_of-self
invariant_of-self c =
    let opened = rw (← c.self.view_is) at c.requires in
    let at : c.args.channel - 1 < length c.self.inside.channels.items = omega (arith, opened.0, opened.1) in
    whole_kept c.self.inside.channels.items (length c.self.inside.inputs.items) _ c.self.inside.live c.self.inside.able c.self.inside.tracker c.args.channel
    c.make_ready.new.self
    c.self.invariant
    refl
    opened.0
    opened.1
    (λ b. ap (due_in b) c.make_ready.ensures.same ∙ ap (due_in b) (c.index_mut.ensures.value ∙ get_or_default _ _ _ _ at))

pub invariant_of-self-2 : goal.invariant_of-self-2
invariant_of-self-2 c =
    let opened = rw (← c.self.view_is) at c.requires in
    let at : c.args.channel - 1 < length c.self.inside.channels.items = omega (arith, opened.0, opened.1) in
    whole_kept c.self.inside.channels.items (length c.self.inside.inputs.items) _ c.self.inside.live c.self.inside.able c.self.inside.tracker c.args.channel
    c.make_ready.new.self
    c.self.invariant
    (length-set c.self.inside.inputs.items (c.args.channel - 1) c.make_ready-2.new.self)
    opened.0
    opened.1
    (λ b. ap (due_in b) c.make_ready.ensures.same ∙ ap (due_in b) (c.index_mut.ensures.value ∙ get_or_default _ _ _ _ at))

pub returns-in_err-make_ready-clause-same : goal.returns-in_err-make_ready-clause-same
returns-in_err-make_ready-clause-same c =
    let opened = rw (← c.self.view_is) at c.requires in
    let at : c.args.channel - 1 < length c.self.inside.channels.items = omega (arith, opened.0, opened.1) in
    rw (← c.self.view_is)
    (spare_in_channel _ c.args.channel c.index_mut.result.now c.make_ready.new.self (c.index_mut.ensures.value ∙ get_or_default _ _ _ _ at) c.make_ready.ensures.same)

pub returns-in_err-make_ready-clause-room : goal.returns-in_err-make_ready-clause-room
returns-in_err-make_ready-clause-room c =
    let opened = rw (← c.self.view_is) at c.requires in
    let at : c.args.channel - 1 < length c.self.inside.channels.items = omega (arith, opened.0, opened.1) in
    let before : Table = record {
      channels = c.self.inside.channels.items;
      inputs = c.self.inside.inputs.items;
      live = c.self.inside.live;
      able = c.self.inside.able;
      anrs = c.self.inside.anrs;
    } in
    rw (← c.self.view_is)
    (more_in_channel before c.args.channel c.index_mut.result.now c.make_ready.new.self (c.index_mut.ensures.value ∙ get_or_default _ _ _ _ at) c.make_ready.ensures.more)

pub returns-clause-ok : goal.returns-clause-ok
returns-clause-ok c =
    let opened = rw (← c.self.view_is) at c.requires in
    let input_at : c.args.channel - 1 < length c.self.inside.inputs.items = omega (arith, opened.0, opened.1, c.self.invariant.as_many) in
    on_ok_weaker c.make_ready-2.result
    (λ more. (
      subst (λ (s : ChannelState). c.args.n ≤ s.spare) (sym (channel_set_same c.self.inside.channels.items c.args.channel c.make_ready.new.self opened.0 opened.1)) c.in_ok-make_ready.ensures.ok,
      subst (λ (i : Tracked). c.args.n ≤ i.spare) (sym (get_or-set_same c.self.inside.inputs.items (c.args.channel - 1) c.make_ready-2.new.self unsent input_at)) more,
    ))
    c.make_ready-2.ensures.ok

pub returns-clause-same : goal.returns-clause-same
returns-clause-same c =
    let opened = rw (← c.self.view_is) at c.requires in
    let at : c.args.channel - 1 < length c.self.inside.channels.items = omega (arith, opened.0, opened.1) in
    let input_at : c.args.channel - 1 < length c.self.inside.inputs.items = omega (arith, opened.0, opened.1, c.self.invariant.as_many) in
    rw (← c.self.view_is)
    (spare_in_both _ c.args.channel c.index_mut.result.now c.make_ready.new.self c.index_mut-2.result.now c.make_ready-2.new.self
    (c.index_mut.ensures.value ∙ get_or_default _ _ _ _ at)
    c.make_ready.ensures.same
    (c.index_mut-2.ensures.value ∙ get_or_default _ _ _ _ input_at)
    c.make_ready-2.ensures.same)

pub returns-clause-room : goal.returns-clause-room
returns-clause-room c =
    let opened = rw (← c.self.view_is) at c.requires in
    let at : c.args.channel - 1 < length c.self.inside.channels.items = omega (arith, opened.0, opened.1) in
    let input_at : c.args.channel - 1 < length c.self.inside.inputs.items = omega (arith, opened.0, opened.1, c.self.invariant.as_many) in
    let before : Table = record {
      channels = c.self.inside.channels.items;
      inputs = c.self.inside.inputs.items;
      live = c.self.inside.live;
      able = c.self.inside.able;
      anrs = c.self.inside.anrs;
    } in
    rw (← c.self.view_is)
    (more_in_both before c.args.channel c.index_mut.result.now c.make_ready.new.self c.index_mut-2.result.now c.make_ready-2.new.self
    (c.index_mut.ensures.value ∙ get_or_default _ _ _ _ at)
    c.make_ready.ensures.more
    (c.index_mut-2.ensures.value ∙ get_or_default _ _ _ _ input_at)
    c.make_ready-2.ensures.more)
