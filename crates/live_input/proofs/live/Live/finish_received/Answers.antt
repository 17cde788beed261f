-- The message is finished, if it is to be.
use Rattle.std.proofs.Common.{None, sym, ap, ◌∙◌, subst}
use Rattle.dispatcher.specs.Access.{got}
use Rattle.live_input.specs.Receiving.{with_call}
use Rattle.live_input.specs.Standing.{LiveIs}
use Rattle.live_input.specs.State.{LiveState}
use Rattle.live_input.proofs.Received.{may_count_is, own_finish_is, own_is, with_own}
use Rattle.live_input.proofs.live.Live.finish_received.Goals as goal

pub returns-in-Some-clause-after : goal.returns-in-Some-clause-after
returns-in-Some-clause-after c = λ ds es h held.
    let s = c.args.self.now in
    let is =
    own_is es s c.args.finishes c.args.channel (got c.args.reply.now) c.own_finish.result c.self.inside.clock c.self.inside.steps.made h.steps_are.made_is
    (ap (λ (x : LiveState). x.clock) c.self.view_is) (ap (λ (x : LiveState). x.steps.made) c.self.view_is) c.own_finish.ensures in
    let own = own_finish_is s.seats c.args.finishes _ s.clock c.args.channel (got c.args.reply.now) c.in-Some.call held (sym is ∙ c.in-Some.is) in
    with_own ds es c.make_counted.new.self _ c.own_finish.result is
    (subst (λ o. LiveIs ds (with_call ds o es) c.make_counted.new.self) (sym c.in-Some.is)
    (c.make_counted.ensures.after ds es h own.easy (may_count_is es own.may)))

pub returns-in_default-clause-after : goal.returns-in_default-clause-after
returns-in_default-clause-after c = λ ds es h held.
    let s = c.args.self.now in
    let is =
    own_is es s c.args.finishes c.args.channel (got c.args.reply.now) c.own_finish.result c.self.inside.clock c.self.inside.steps.made h.steps_are.made_is
    (ap (λ (x : LiveState). x.clock) c.self.view_is) (ap (λ (x : LiveState). x.steps.made) c.self.view_is) c.own_finish.ensures in
    with_own ds es s _ None (sym c.in_default.is ∙ is) h
