use Rattle.std.proofs.Common.{sym, ap, ◌∙◌, not, cond, option_copied}
use Rattle.window_snapshot.specs.Mask.{mask_has}
use Rattle.dispatcher.specs.InputChannel.State.{next_of}
use Rattle.dispatch_calls.specs.declared.reply.Reply.TheVariants.{Gone}
use Rattle.dispatch_history.specs.Reply.{got_reply}
use Rattle.dispatcher.specs.DispatchChannels.Table.{channel_of}
use Rattle.dispatcher.proofs.owners.next_reply.Goals as goal

pub returns-then-not-mask_has : goal.returns-then-not-mask_has
returns-then-not-mask_has c =
    sym (ap (λ b. cond (not b) Gone (got_reply (next_of (channel_of c.args.routing.now.channels c.args.channel))))
    (ap (λ m. mask_has m c.args.channel) (sym c.live.ensures.value) ∙ sym c.mask_has.ensures ∙ c.if-not-mask_has.true))

pub returns-in-None : goal.returns-in-None
returns-in-None c =
    ap got_reply (sym (sym c.next.ensures ∙ ap option_copied c.in-None.is))
    ∙ sym (ap (λ b. cond (not b) Gone (got_reply (next_of (channel_of c.args.routing.now.channels c.args.channel))))
    (ap (λ m. mask_has m c.args.channel) (sym c.live.ensures.value) ∙ sym c.mask_has.ensures ∙ c.if-not-mask_has.false))

pub returns-in-Some : goal.returns-in-Some
returns-in-Some c =
    ap got_reply (sym (sym c.next.ensures ∙ ap option_copied c.in-Some.is))
    ∙ sym (ap (λ b. cond (not b) Gone (got_reply (next_of (channel_of c.args.routing.now.channels c.args.channel))))
    (ap (λ m. mask_has m c.args.channel) (sym c.live.ensures.value) ∙ sym c.mask_has.ensures ∙ c.if-not-mask_has.false))
