-- It is due by the clock, so none comes before it.
use Rattle.std.proofs.Common.{◌≡◌, ◌∙◌, ◌-◌, length, map, Some, None, refl, sym, ap, subst, arith}
use Rattle.std.proofs.lemmas.Option.{slice_get_read}
use Rattle.dispatch_calls.specs.declared.call.Call.TheVariants.{Finish}
use Rattle.dispatch_history.specs.Effect.{past_of}
use Rattle.dispatch_history.specs.History.{clock}
use Rattle.schedule.specs.declared.due.What.TheVariants as whats
use Rattle.schedule.specs.Choosing.{NotBefore}
use Rattle.schedule.specs.Handing.{single}
use Rattle.schedule.specs.Next.{finish_of, next_finish}
use Rattle.schedule.specs.Planned.{channel_of}
use Rattle.schedule.proofs.Counting.{live_opened}
use Rattle.schedule.proofs.Idle.{at_once_due, at_once_is}
use Rattle.schedule.proofs.Masked.{enough, first_now, none_below}
use Rattle.schedule.proofs.choose.next_at_once.Goals as goal

pub returns : goal.returns
returns c = λ es s overdue.
    let n = c.mask_first-number.result in
    let t = c.in_ok-seq.delivery in
    let seq = c.in_ok-seq.seq in
    let rest = c.unfinished-rest.result in
    let cs = c.args.channels.now in
    let p = channel_of c.in_ok-channel.channel.now in
    let lives = c.unfinished-rest.ensures.live es s n c.mask_first-number.ensures.has in
    let opened = live_opened c.args.dispatcher.now.displays es n s.lawful lives in
    let one : next_finish es n (channel_of c.in_ok-channel.channel.now) ≡ Some (single (Finish c.in_ok-seq.delivery c.mask_first-number.result c.in_ok-seq.seq)) =
    at_once_is es n p seq t lives c.if-not-channel.false (omega (arith, c.if-channel-ne0.false)) (sym (c.oldest.ensures.value es s opened) ∙ c.in_ok-seq.was) in
    let at = slice_get_read cs (length cs) (n - 1) c.in_ok-channel.channel.now refl c.in_ok-channel.ensures.lookup.3.0 c.in_ok-channel.ensures.lookup.1 in
    let due = at_once_due c.args.dispatcher.now.displays es n p (Some (record { moment = t; what = whats.Finish n seq })) s.lawful (sym one) refl (omega (arith, c.if-channel-ne0.false)) in
    let all = enough es rest 1 (map channel_of cs) None (c.unfinished-rest.ensures.none es s) in
    sym all
    ∙ first_now es rest cs (n - 1) 1 n (single (Finish t n seq)) (clock (past_of es)) (omega (arith, c.mask_first-number.ensures.range.0)) c.mask_first-number.ensures.has
    (none_below rest n c.mask_first-number.ensures.first) (ap (finish_of es n) at ∙ one) due (subst (NotBefore (clock (past_of es))) (sym all) overdue)
