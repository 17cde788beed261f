use Rattle.std.proofs.Common.{sym, ap, ◌∙◌, subst}
use Rattle.window_snapshot.specs.Mask.{mask_has}
use Rattle.dispatch_calls.specs.declared.call.Call.TheVariants.{Finish}
use Rattle.dispatch_calls.specs.declared.reply.Reply.TheVariants.{UnknownSeq}
use Rattle.dispatcher.specs.Tables.{Goes}
use Rattle.dispatcher.proofs.Made.NoOps.{finish_gone, finish_none, finish_one}
use Rattle.dispatcher.proofs.owners.finish.Goals as goal

pub returns-then-not-mask_has : goal.returns-then-not-mask_has
returns-then-not-mask_has c =
    λ place.
    finish_gone c.args.channel c.args.seq place c.args.clock c.args.routing.now
    (ap (λ m. mask_has m c.args.channel) (sym c.live.ensures.value) ∙ sym c.mask_has.ensures ∙ c.if-not-mask_has.true)

pub returns-in-Ok : goal.returns-in-Ok
returns-in-Ok c =
    λ place.
    finish_one c.args.channel c.args.seq place c.args.clock c.args.routing.now c.finish.new.self
    (ap (λ m. mask_has m c.args.channel) (sym c.live.ensures.value) ∙ sym c.mask_has.ensures ∙ c.if-not-mask_has.false)
    (sym c.in-Ok.ensures.variant)
    c.in-Ok.ensures.ok

pub returns-in-Err : goal.returns-in-Err
returns-in-Err c =
    λ place.
    let old = c.args.routing.now in
    subst (λ t. Goes (λ now. Finish now c.args.channel c.args.seq) UnknownSeq place c.args.clock old (record old { channels = t })) (sym c.in-Err.ensures.err)
    (finish_none c.args.channel c.args.seq place c.args.clock old
    (ap (λ m. mask_has m c.args.channel) (sym c.live.ensures.value) ∙ sym c.mask_has.ensures ∙ c.if-not-mask_has.false)
    (sym c.in-Err.ensures.variant))
