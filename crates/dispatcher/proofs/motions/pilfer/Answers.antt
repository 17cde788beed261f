use Rattle.std.proofs.Common.{◌==◌, ◌&&◌, sym, ap, ◌∙◌}
use Rattle.std.specs.List.{list_any}
use Rattle.window_snapshot.specs.Mask.{mask_has}
use Rattle.window_snapshot.specs.Window.{is_spy}
use Rattle.dispatcher.proofs.Rounds.Pilfering.{pilfer_gone, pilfer_no_spy, pilfer_nothing, pilfers}
use Rattle.dispatcher.proofs.motions.pilfer.Goals as goal

pub returns-then-not-mask_has-clause-ok : goal.returns-then-not-mask_has-clause-ok
returns-then-not-mask_has-clause-ok c =
    pilfer_gone c.args.channel c.args.device c.args.place c.args.clock c.args.routing.now
    (ap (λ m. mask_has m c.args.channel) (sym c.live.ensures.value) ∙ sym c.mask_has.ensures ∙ c.if-not-mask_has.true)

pub returns-then-not-has_spy-clause-ok : goal.returns-then-not-has_spy-clause-ok
returns-then-not-has_spy-clause-ok c =
    pilfer_no_spy c.args.channel c.args.device c.args.place c.args.clock c.args.routing.now
    (ap (λ m. mask_has m c.args.channel) (sym c.live.ensures.value) ∙ sym c.mask_has.ensures ∙ c.if-not-mask_has.false)
    (ap (λ ws. list_any (λ v. v.channel == c.args.channel && is_spy v) ws) (sym (c.windows-2.ensures.windows ∙ c.windows.ensures))
    ∙ sym c.has_spy.ensures
    ∙ c.if-not-has_spy.true)

pub returns-then-not-mask_has-2-clause-ok : goal.returns-then-not-mask_has-2-clause-ok
returns-then-not-mask_has-2-clause-ok c =
    pilfer_nothing c.args.channel c.args.device c.args.place c.args.clock c.args.routing.now
    (ap (λ m. mask_has m c.args.channel) (sym c.live.ensures.value) ∙ sym c.mask_has.ensures ∙ c.if-not-mask_has.false)
    (ap (λ ws. list_any (λ v. v.channel == c.args.channel && is_spy v) ws) (sym (c.windows-2.ensures.windows ∙ c.windows.ensures))
    ∙ sym c.has_spy.ensures
    ∙ c.if-not-has_spy.false)
    (sym (c.holders.ensures c.args.channel) ∙ sym c.mask_has-2.ensures ∙ c.if-not-mask_has-2.true)

pub returns-clause-ok : goal.returns-clause-ok
returns-clause-ok c =
    pilfers c.args.channel c.args.device c.args.place c.args.clock c.no_change-change.result.lost c.no_change-change.result.gained c.args.routing.now
    c.send_still.new.routing
    c.no_change-change.ensures.0
    c.no_change-change.ensures.1
    (ap (λ m. mask_has m c.args.channel) (sym c.live.ensures.value) ∙ sym c.mask_has.ensures ∙ c.if-not-mask_has.false)
    (ap (λ ws. list_any (λ v. v.channel == c.args.channel && is_spy v) ws) (sym (c.windows-2.ensures.windows ∙ c.windows.ensures))
    ∙ sym c.has_spy.ensures
    ∙ c.if-not-has_spy.false)
    (sym (c.holders.ensures c.args.channel) ∙ sym c.mask_has-2.ensures ∙ c.if-not-mask_has-2.false)
    c.in_ok-send_still.ensures.ok
