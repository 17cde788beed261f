use Rattle.std.proofs.Common.{◌≡◌, ◌≤◌, false, sym, ap, ◌∙◌, subst, arith}
use Rattle.window_snapshot.specs.Mask.{mask_has}
use Rattle.dispatcher.specs.InputChannel.State.{all_released}
use Rattle.dispatcher.specs.DispatchChannels.Table.{channel_of, opened}
use Rattle.dispatch_history.specs.Effect.{past_of}
use Rattle.dispatch_history.specs.History.{live}
use Rattle.dispatcher.specs.Access.{gone, anrs_released}
use Rattle.dispatcher.specs.Dispatching.{IsAfter, StandsFor}
use Rattle.std.proofs.lemmas.Bool.{true≢false}
use Rattle.dispatcher.proofs.Room.RoomMade.{release_room}
use Rattle.dispatcher.proofs.Made.Applying.{seen, raw, bare}
use Rattle.dispatcher.proofs.Laws.Standing.{after_of, stands_but, may_of_all}
use Rattle.dispatcher.proofs.Made.Releasing.{all_go_stands, stream_gone, others_gone, not_live, is_live}
use Rattle.dispatcher.proofs.dispatcher.Dispatcher.release_all.Goals as goal

pub invariant_of-self : goal.invariant_of-self
invariant_of-self c =
    let s = c.self.invariant.0 in
    let r = c.self.inside.tables.routing in
    let removed : mask_has r.channels.live c.args.channel ≡ false =
    ap (λ m. mask_has m c.args.channel) (sym c.live.ensures.value) ∙ sym c.mask_has.ensures ∙ c.if-mask_has.false in (
      (
        s.0,
        bare s.0 (record c.self.inside.tables { routing = record r { channels = c.release_all.new.self } })
            (all_go_stands s.0 c.self.inside.tables c.release_all.new.self c.args.channel (raw s.0 c.self.inside.tables s.1)
            (omega (arith, c.if-channel-gt0.true))
            (omega (arith, c.if-channel-opened.true, c.opened.ensures.value))
            c.release_all.ensures),
      ),
      λ some.
          release_room _ c.args.channel r c.release_all.new.self (all_released (channel_of r.channels c.args.channel)) c.release_all.ensures
          (omega (arith, c.if-channel-gt0.true))
          (omega (arith, c.if-channel-opened.true, c.opened.ensures.value))
          (λ lives. absurd (true≢false (sym lives ∙ removed)))
          (c.self.invariant.1 some),
    )

pub returns-then-channel-opened-clause-known : goal.returns-then-channel-opened-clause-known
returns-then-channel-opened-clause-known c =
    λ es s.
    bare es (record c.self.inside.tables { routing = record c.self.inside.tables.routing { channels = c.release_all.new.self } })
    (all_go_stands es c.self.inside.tables c.release_all.new.self c.args.channel (raw es c.self.inside.tables (subst (IsAfter es) (sym c.self.view_is) s))
    (omega (arith, c.if-channel-gt0.true))
    (omega (arith, c.if-channel-opened.true, c.opened.ensures.value))
    c.release_all.ensures)

pub returns-then-channel-opened-clause-gone : goal.returns-then-channel-opened-clause-gone
returns-then-channel-opened-clause-gone c =
    λ es s _ _.
    stream_gone es c.self.inside.tables c.release_all.new.self c.args.channel (raw es c.self.inside.tables (subst (IsAfter es) (sym c.self.view_is) s))
    (omega (arith, c.if-channel-gt0.true))
    (omega (arith, c.if-channel-opened.true, c.opened.ensures.value))
    c.release_all.ensures

pub returns-then-channel-opened-clause-live : goal.returns-then-channel-opened-clause-live
returns-then-channel-opened-clause-live c =
    λ es s lives.
    absurd
    (not_live es c.self.inside.tables c.args.channel (raw es c.self.inside.tables (subst (IsAfter es) (sym c.self.view_is) s)) lives
    (ap (λ m. mask_has m c.args.channel) (sym c.live.ensures.value) ∙ sym c.mask_has.ensures ∙ c.if-mask_has.false))

pub returns-then-channel-opened-clause-others : goal.returns-then-channel-opened-clause-others
returns-then-channel-opened-clause-others c =
    λ k from other.
    others_gone c.self.inside.tables.routing.channels c.release_all.new.self c.args.channel k
    (all_released (channel_of c.self.inside.tables.routing.channels c.args.channel)) c.release_all.ensures (omega (arith, c.if-channel-gt0.true)) from other
    ∙ ap (λ d. gone d k) c.self.view_is

pub returns-then-channel-opened-clause-anrs : goal.returns-then-channel-opened-clause-anrs
returns-then-channel-opened-clause-anrs c = ap (λ t. t.anrs.gone) c.release_all.ensures ∙ ap anrs_released c.self.view_is

pub returns-then-mask_has-clause-gone : goal.returns-then-mask_has-clause-gone
returns-then-mask_has-clause-gone c =
    λ es s _ dead.
    absurd
    (is_live es c.self.inside.tables c.args.channel (raw es c.self.inside.tables (subst (IsAfter es) (sym c.self.view_is) s)) dead
    (ap (λ m. mask_has m c.args.channel) (sym c.live.ensures.value) ∙ sym c.mask_has.ensures ∙ c.if-mask_has.true))

pub returns-then-channel-opened-clause-stays : goal.returns-then-channel-opened-clause-stays
returns-then-channel-opened-clause-stays c =
    λ es s.
    let low : 1 ≤ c.args.channel = omega (arith, c.if-channel-gt0.true) in
    let high : c.args.channel ≤ opened c.self.inside.tables.routing.channels = omega (arith, c.if-channel-opened.true, c.opened.ensures.value) in
    let old = c.self.inside.tables in
    let new = record old { routing = record old.routing { channels = c.release_all.new.self } } in
    let stands : StandsFor es (seen old) = subst (StandsFor es) (sym c.self.view_is) s in
    let tables = raw es old (after_of es (seen old) stands) in
    let dead : live (past_of es) c.args.channel ≡ false =
    sym (ap (λ f. f c.args.channel) tables.knows.delivery.live_is)
    ∙ ap (λ m. mask_has m c.args.channel) (sym c.live.ensures.value)
    ∙ sym c.mask_has.ensures
    ∙ c.if-mask_has.false in
    stands_but es (seen old) (seen new) c.args.channel stands
    (may_of_all es c.args.channel (gone (seen new) c.args.channel) dead
    (stream_gone es old c.release_all.new.self c.args.channel tables low high c.release_all.ensures))
    (λ k from other.
    others_gone old.routing.channels c.release_all.new.self c.args.channel k (all_released (channel_of old.routing.channels c.args.channel)) c.release_all.ensures low from other)
    (bare es new (all_go_stands es old c.release_all.new.self c.args.channel tables low high c.release_all.ensures))
