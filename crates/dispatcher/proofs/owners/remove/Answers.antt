use Rattle.std.proofs.Common.{None, refl, sym, ap, ◌∙◌, if◌then◌else◌}
use Rattle.focus_resolver.specs.Resolver.{is_at}
use Rattle.window_snapshot.specs.Mask.{mask_has}
use Rattle.dispatcher.proofs.Made.NoOps.{remove_gone, removes}
use Rattle.dispatcher.proofs.Rounds.Refocused.{refocuses_by}
use Rattle.dispatcher.proofs.owners.remove.Goals as goal

pub returns-then-not-mask_has : goal.returns-then-not-mask_has
returns-then-not-mask_has c =
    λ clock.
    remove_gone c.args.channel c.args.place clock c.args.routing.now
    (ap (λ m. mask_has m c.args.channel) (sym c.live.ensures.value) ∙ sym c.mask_has.ensures ∙ c.if-not-mask_has.true)

pub returns : goal.returns
returns c =
    λ clock.
    let old = c.args.routing.now in
    removes c.args.channel c.args.place clock old _
    (ap (λ m. mask_has m c.args.channel) (sym c.live.ensures.value) ∙ sym c.mask_has.ensures ∙ c.if-not-mask_has.false)
    c.change-not_sent.ensures.changes
    refl
    refl
    refl
    c.remove.ensures
    (refocuses_by old.shown.windows _ _ _ old.focus c.windows-change.new.self _ c.windows-change.ensures.state c.focusable-windows.ensures c.windows.ensures
    (c.live-2.ensures.value ∙ ap (λ t. t.live) c.remove.ensures))
    (c.forget_key.ensures ∙ ap (λ o. if is_at o c.args.channel then None else old.repeat) c.target-target.ensures)
