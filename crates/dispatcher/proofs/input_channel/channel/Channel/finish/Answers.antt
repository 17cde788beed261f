use Rattle.std.proofs.Common.{sym, ◌∙◌}
use Rattle.dispatcher.proofs.InputChannel.Finishing.{absent, present, removed, finished_channel, may, may_not}
use Rattle.dispatcher.proofs.input_channel.channel.Channel.finish.Goals as goal

pub returns-in_default-clause-variant : goal.returns-in_default-clause-variant
returns-in_default-clause-variant c =
    rw (← c.self.view_is)
    (may_not _ _
    (absent c.args.seq c.self.inside.unfinished.items
    (rw c.as_slice.ensures.value at (sym c.place_of.ensures ∙ c.in_default.is))))

pub invariant_of-self : goal.invariant_of-self
invariant_of-self c =
    let at = rw c.as_slice.ensures.value at (sym c.place_of.ensures ∙ c.in-Some.is) in
    finished_channel _ c.args.seq c.remove.new.self.items c.self.invariant
    (c.remove.ensures.items
    ∙ removed c.args.seq c.self.inside.unfinished.items c.in-Some.place c.remove.result c.self.invariant.in_order at)
    c.remove.ensures.len

pub returns-clause-variant : goal.returns-clause-variant
returns-clause-variant c =
    let at = rw c.as_slice.ensures.value at (sym c.place_of.ensures ∙ c.in-Some.is) in
    rw (← c.self.view_is)
    (may _ _ _ c.if-self-seq.false
    (present c.args.seq c.self.inside.unfinished.items c.in-Some.place c.remove.result at))

pub returns-clause-ok : goal.returns-clause-ok
returns-clause-ok c =
    let at = rw c.as_slice.ensures.value at (sym c.place_of.ensures ∙ c.in-Some.is) in
    let rest = removed c.args.seq c.self.inside.unfinished.items c.in-Some.place c.remove.result c.self.invariant.in_order at
    in rw (← c.self.view_is, c.remove.ensures.items, rest)
