use Rattle.std.proofs.Common.{◌<◌, ◌-◌, length, ◌∙◌, arith}
use Rattle.std.proofs.lemmas.List.{get_or_default}
use Rattle.std.proofs.lemmas.Result.{on_err_weaker}
use Rattle.dispatcher.proofs.DispatchChannels.Outgoing.{only_room}
use Rattle.dispatcher.proofs.dispatch_channels.channels.Channels.reserve.Goals as goal

pub returns-clause-err : goal.returns-clause-err
returns-clause-err c =
    let opened = rw (← c.self.view_is) at c.requires in
    let at : c.args.channel - 1 < length c.self.inside.channels.items = omega (arith, opened.0, opened.1) in
    let input_at : c.args.channel - 1 < length c.self.inside.inputs.items = omega (arith, opened.0, opened.1, c.self.invariant.as_many) in
    on_err_weaker c.reserve-2.result
    (λ same. rw (← c.self.view_is)
    (only_room _ c.args.channel c.args.n c.index_mut.result.now c.reserve.new.self c.reserve-2.new.self
    (c.index_mut.ensures.value ∙ get_or_default _ _ _ _ at)
    c.in_ok-reserve.ensures.ok
    (same ∙ c.index_mut-2.ensures.value ∙ get_or_default _ _ _ _ input_at)))
    c.reserve-2.ensures.err
