use Rattle.std.proofs.Common.{◌&&◌, ◌==◌, sym, ap, ◌∙◌}
use Rattle.std.specs.List.{list_any}
use Rattle.window_snapshot.specs.Window.{is_spy}
use Rattle.window_snapshot.proofs.Masks.{mask_has_channel}
use Rattle.routing_rules.specs.Marks.{held}
use Rattle.routing_rules.specs.Pairs.{has_any}
use Rattle.route_split.specs.Tables.{any_at}
use Rattle.dispatch_history.specs.Effect.{past_of}
use Rattle.dispatch_history.specs.History.{live, snapshot}
use Rattle.dispatch_history.specs.Step.{marks}
use Rattle.why_lines.proofs.Pilfering.{holds_nothing, is_done, is_gone, is_no_spy}
use Rattle.why_lines.proofs.owners.refusal.Goals as goal

pub returns-then-not-is_live-clause-value : goal.returns-then-not-is_live-clause-value
returns-then-not-is_live-clause-value c es st =
    is_gone (live (past_of es) c.args.channel) (list_any (λ v. v.channel == c.args.channel && is_spy v) (snapshot (past_of es)))
    (has_any (held (marks es)) c.args.channel c.args.device)
    (sym (c.is_live.ensures es st) ∙ c.if-not-is_live.true)

pub returns-then-not-has_spy-clause-value : goal.returns-then-not-has_spy-clause-value
returns-then-not-has_spy-clause-value c es st =
    is_no_spy (live (past_of es) c.args.channel) (list_any (λ v. v.channel == c.args.channel && is_spy v) (snapshot (past_of es)))
    (has_any (held (marks es)) c.args.channel c.args.device)
    (sym (c.is_live.ensures es st) ∙ c.if-not-is_live.false)
    (ap (list_any (λ v. v.channel == c.args.channel && is_spy v)) (sym (c.windows-2.ensures.windows ∙ c.windows.ensures es st))
    ∙ sym c.has_spy.ensures
    ∙ c.if-not-has_spy.true)

pub returns-then-not-mask_has-clause-value : goal.returns-then-not-mask_has-clause-value
returns-then-not-mask_has-clause-value c es st =
    holds_nothing (live (past_of es) c.args.channel) (list_any (λ v. v.channel == c.args.channel && is_spy v) (snapshot (past_of es)))
    (has_any (held (marks es)) c.args.channel c.args.device)
    (sym (c.is_live.ensures es st) ∙ c.if-not-is_live.false)
    (ap (list_any (λ v. v.channel == c.args.channel && is_spy v)) (sym (c.windows-2.ensures.windows ∙ c.windows.ensures es st))
    ∙ sym c.has_spy.ensures
    ∙ c.if-not-has_spy.false)
    (sym ((c.touches.ensures.reads es st).any_are c.args.channel c.args.device)
    ∙ ap (λ ts. any_at ts c.args.channel c.args.device) (sym c.touches.ensures.value)
    ∙ sym (c.holders.ensures c.args.channel)
    ∙ sym c.mask_has.ensures
    ∙ c.if-not-mask_has.true)

pub returns-clause-value : goal.returns-clause-value
returns-clause-value c es st =
    is_done (live (past_of es) c.args.channel) (list_any (λ v. v.channel == c.args.channel && is_spy v) (snapshot (past_of es)))
    (has_any (held (marks es)) c.args.channel c.args.device)
    (sym (c.is_live.ensures es st) ∙ c.if-not-is_live.false)
    (ap (list_any (λ v. v.channel == c.args.channel && is_spy v)) (sym (c.windows-2.ensures.windows ∙ c.windows.ensures es st))
    ∙ sym c.has_spy.ensures
    ∙ c.if-not-has_spy.false)
    (sym ((c.touches.ensures.reads es st).any_are c.args.channel c.args.device)
    ∙ ap (λ ts. any_at ts c.args.channel c.args.device) (sym c.touches.ensures.value)
    ∙ sym (c.holders.ensures c.args.channel)
    ∙ sym c.mask_has.ensures
    ∙ c.if-not-mask_has.false)

pub returns-clause-channel : goal.returns-clause-channel
returns-clause-channel c none = mask_has_channel c.holders.result c.args.channel (sym c.mask_has.ensures ∙ c.if-not-mask_has.false)
