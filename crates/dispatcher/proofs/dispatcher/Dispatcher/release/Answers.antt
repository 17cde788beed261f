use Rattle.std.proofs.Common.{◌≤◌, max, refl, sym, ap, ◌∙◌, subst, arith}
use Rattle.dispatcher.specs.InputChannel.State.{release_of}
use Rattle.dispatcher.specs.DispatchChannels.Table.{channel_of, opened}
use Rattle.dispatch_history.specs.Effect.{past_of}
use Rattle.dispatch_history.specs.History.{received}
use Rattle.dispatcher.specs.Access.{gone, anrs_released}
use Rattle.dispatcher.specs.Dispatching.{IsAfter, StandsFor}
use Rattle.dispatcher.proofs.Room.RoomMade.{release_room}
use Rattle.dispatcher.proofs.Made.Applying.{seen, raw, bare}
use Rattle.dispatcher.proofs.Laws.Standing.{after_of, stands_but, may_of_received}
use Rattle.dispatcher.proofs.Room.Rooms.{channel_bare}
use Rattle.dispatcher.proofs.Made.Releasing.{opened_at, release_stands, received_gone, live_gone, others_gone}
use Rattle.dispatcher.proofs.dispatcher.Dispatcher.release.Goals as goal
use Rattle.dispatcher.proofs.dispatcher.Dispatcher.release.Goals.{else-channel-gt0-via-then-channel-gt0+else-channel-opened, else-channel-gt0-via-else-channel-gt0}

pub invariant_of-self : goal.invariant_of-self
invariant_of-self c =
    let s = c.self.invariant.0 in
    let r = c.self.inside.tables.routing in (
      (
        s.0,
        bare s.0 (record c.self.inside.tables { routing = record r { channels = c.release.new.self } })
            (release_stands s.0 c.self.inside.tables c.release.new.self c.args.channel (raw s.0 c.self.inside.tables s.1)
            (omega (arith, c.if-channel-gt0.true))
            (omega (arith, c.if-channel-opened.true, c.opened.ensures.value))
            c.release.ensures),
      ),
      λ some.
          release_room _ c.args.channel r c.release.new.self (release_of (channel_of r.channels c.args.channel)) c.release.ensures
          (omega (arith, c.if-channel-gt0.true))
          (omega (arith, c.if-channel-opened.true, c.opened.ensures.value))
          (λ _. refl)
          (c.self.invariant.1 some),
    )

pub returns-then-channel-opened-clause-known : goal.returns-then-channel-opened-clause-known
returns-then-channel-opened-clause-known c =
    λ es s.
    bare es (record c.self.inside.tables { routing = record c.self.inside.tables.routing { channels = c.release.new.self } })
    (release_stands es c.self.inside.tables c.release.new.self c.args.channel (raw es c.self.inside.tables (subst (IsAfter es) (sym c.self.view_is) s))
    (omega (arith, c.if-channel-gt0.true))
    (omega (arith, c.if-channel-opened.true, c.opened.ensures.value))
    c.release.ensures)

pub returns-then-channel-opened-clause-gone : goal.returns-then-channel-opened-clause-gone
returns-then-channel-opened-clause-gone c =
    λ es s _.
    received_gone es c.self.inside.tables c.release.new.self c.args.channel (raw es c.self.inside.tables (subst (IsAfter es) (sym c.self.view_is) s))
    (omega (arith, c.if-channel-gt0.true))
    (omega (arith, c.if-channel-opened.true, c.opened.ensures.value))
    c.release.ensures
    ∙ ap (λ d. max (gone d c.args.channel) (received (past_of es) c.args.channel)) c.self.view_is

pub returns-then-channel-opened-clause-live : goal.returns-then-channel-opened-clause-live
returns-then-channel-opened-clause-live c =
    λ es s _ lives.
    let low : 1 ≤ c.args.channel = omega (arith, c.if-channel-gt0.true) in
    let stands : StandsFor es (seen c.self.inside.tables) = subst (StandsFor es) (sym c.self.view_is) s in
    live_gone es c.self.inside.tables c.release.new.self c.args.channel (raw es c.self.inside.tables (after_of es (seen c.self.inside.tables) stands))
    low
    (omega (arith, c.if-channel-opened.true, c.opened.ensures.value))
    (subst (λ n. n ≤ received (past_of es) c.args.channel) (ap (λ x. x.gone) (channel_bare c.self.inside.tables.routing.channels c.args.channel))
    ((stands.may_go c.args.channel low).of_live lives))
    c.release.ensures

pub returns-then-channel-opened-clause-stays : goal.returns-then-channel-opened-clause-stays
returns-then-channel-opened-clause-stays c =
    λ es s.
    let low : 1 ≤ c.args.channel = omega (arith, c.if-channel-gt0.true) in
    let high : c.args.channel ≤ opened c.self.inside.tables.routing.channels = omega (arith, c.if-channel-opened.true, c.opened.ensures.value) in
    let old = c.self.inside.tables in
    let new = record old { routing = record old.routing { channels = c.release.new.self } } in
    let stands : StandsFor es (seen old) = subst (StandsFor es) (sym c.self.view_is) s in
    let tables = raw es old (after_of es (seen old) stands) in
    stands_but es (seen old) (seen new) c.args.channel stands
    (may_of_received es (seen old) c.args.channel (gone (seen new) c.args.channel) low stands
    (received_gone es old c.release.new.self c.args.channel tables low high c.release.ensures))
    (λ k from other.
    others_gone old.routing.channels c.release.new.self c.args.channel k (release_of (channel_of old.routing.channels c.args.channel)) c.release.ensures low from other)
    (bare es new (release_stands es old c.release.new.self c.args.channel tables low high c.release.ensures))

pub returns-then-channel-opened-clause-others : goal.returns-then-channel-opened-clause-others
returns-then-channel-opened-clause-others c =
    λ k from other.
    others_gone c.self.inside.tables.routing.channels c.release.new.self c.args.channel k
    (release_of (channel_of c.self.inside.tables.routing.channels c.args.channel)) c.release.ensures (omega (arith, c.if-channel-gt0.true)) from other
    ∙ ap (λ d. gone d k) c.self.view_is

pub returns-then-channel-opened-clause-anrs : goal.returns-then-channel-opened-clause-anrs
returns-then-channel-opened-clause-anrs c = ap (λ t. t.anrs.gone) c.release.ensures ∙ ap anrs_released c.self.view_is

-- a channel that was not opened is not asked of
pub returns-else-channel-gt0-clause-live : goal.returns-else-channel-gt0-clause-live
returns-else-channel-gt0-clause-live c =
    λ es s there lives.
    let old = c.self.inside.tables in
    let tables = raw es old (after_of es (seen old) (subst (StandsFor es) (sym c.self.view_is) s)) in
    let at = opened_at es old c.args.channel tables there in
    absurd
    (elim c.else-channel-gt0.branch [
      | else-channel-gt0-via-then-channel-gt0+else-channel-opened w ↦ omega (arith, w.if-channel-opened.false, w.opened.ensures.value, at.1)
      | else-channel-gt0-via-else-channel-gt0 w ↦ omega (arith, w.if-channel-gt0.false, at.0)
    ])
