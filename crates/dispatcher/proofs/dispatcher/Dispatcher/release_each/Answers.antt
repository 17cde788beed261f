use Rattle.std.proofs.Common.{sym, ap, ◌∙◌, subst, refl, arith}
use Rattle.dispatcher.specs.InputChannel.State.{each_released}
use Rattle.dispatcher.specs.DispatchChannels.Table.{channel_of}
use Rattle.dispatcher.specs.Access.{gone, anrs_released}
use Rattle.dispatcher.specs.Dispatching.{IsAfter}
use Rattle.dispatcher.proofs.Room.RoomMade.{release_room}
use Rattle.dispatcher.proofs.Made.Applying.{raw, bare}
use Rattle.dispatcher.proofs.Made.Releasing.{each_go_stands, each_gone, others_gone}
use Rattle.dispatcher.proofs.dispatcher.Dispatcher.release_each.Goals as goal

pub invariant_of-self : goal.invariant_of-self
invariant_of-self c =
    let s = c.self.invariant.0 in
    let r = c.self.inside.tables.routing in (
      (
        s.0,
        bare s.0 (record c.self.inside.tables { routing = record r { channels = c.release_each.new.self } })
            (each_go_stands s.0 c.self.inside.tables c.release_each.new.self c.args.channel (raw s.0 c.self.inside.tables s.1)
            (omega (arith, c.if-channel-gt0.true))
            (omega (arith, c.if-channel-opened.true, c.opened.ensures.value))
            c.release_each.ensures),
      ),
      λ some.
          release_room _ c.args.channel r c.release_each.new.self (each_released (channel_of r.channels c.args.channel)) c.release_each.ensures
          (omega (arith, c.if-channel-gt0.true))
          (omega (arith, c.if-channel-opened.true, c.opened.ensures.value))
          (λ _. refl)
          (c.self.invariant.1 some),
    )

pub returns-then-channel-opened-clause-known : goal.returns-then-channel-opened-clause-known
returns-then-channel-opened-clause-known c =
    λ es s.
    bare es (record c.self.inside.tables { routing = record c.self.inside.tables.routing { channels = c.release_each.new.self } })
    (each_go_stands es c.self.inside.tables c.release_each.new.self c.args.channel (raw es c.self.inside.tables (subst (IsAfter es) (sym c.self.view_is) s))
    (omega (arith, c.if-channel-gt0.true))
    (omega (arith, c.if-channel-opened.true, c.opened.ensures.value))
    c.release_each.ensures)

pub returns-then-channel-opened-clause-gone : goal.returns-then-channel-opened-clause-gone
returns-then-channel-opened-clause-gone c =
    λ es s _.
    each_gone es c.self.inside.tables c.release_each.new.self c.args.channel (raw es c.self.inside.tables (subst (IsAfter es) (sym c.self.view_is) s))
    (omega (arith, c.if-channel-gt0.true))
    (omega (arith, c.if-channel-opened.true, c.opened.ensures.value))
    c.release_each.ensures

pub returns-then-channel-opened-clause-others : goal.returns-then-channel-opened-clause-others
returns-then-channel-opened-clause-others c =
    λ k from other.
    others_gone c.self.inside.tables.routing.channels c.release_each.new.self c.args.channel k
    (each_released (channel_of c.self.inside.tables.routing.channels c.args.channel)) c.release_each.ensures (omega (arith, c.if-channel-gt0.true)) from other
    ∙ ap (λ d. gone d k) c.self.view_is

pub returns-then-channel-opened-clause-anrs : goal.returns-then-channel-opened-clause-anrs
returns-then-channel-opened-clause-anrs c = ap (λ t. t.anrs.gone) c.release_each.ensures ∙ ap anrs_released c.self.view_is
