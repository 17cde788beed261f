-- A message is finished by its number in the channel.
use Rattle.std.proofs.Common.{◌≡◌, max, sym, ap, ap₂, ◌∙◌, subst}
use Rattle.dispatch_calls.specs.declared.call.Call.TheVariants.{Finish}
use Rattle.dispatch_history.specs.Reply.{reply_to}
use Rattle.live_input.specs.Answers.{is_done}
use Rattle.live_input.specs.Seats.{seat_of, number_of}
use Rattle.live_input.specs.Standing.{LiveIs}
use Rattle.live_input.specs.State.{LiveState, latest}
use Rattle.live_input.proofs.Handing.{finishes_not, finishes_ok, made}
use Rattle.live_input.proofs.Opened.{open_held}
use Rattle.live_input.proofs.live.Live.finish.Goals as goal
use Rattle.live_input.proofs.live.Live.finish.Goals.{then-is_finished, else-is_finished}

pub returns-after-is_finished-clause-after : goal.returns-after-is_finished-clause-after
returns-after-is_finished-clause-after c = λ ds es h is.
    let at : c.later-now.result ≡ latest c.args.now c.args.self.now =
    c.later-now.ensures ∙ ap (λ (s : LiveState). max c.args.now s.clock) c.self.view_is in
    let k = c.args.client.channel in
    let number : c.number_of-seq.result ≡ number_of (seat_of c.args.self.now.seats k) c.args.seq =
    c.number_of-seq.ensures ∙ ap (λ s. number_of s c.args.seq) (c.seat_of.ensures ∙ ap (λ (s : LiveState). seat_of s.seats k) c.self.view_is) in
    let call = Finish (latest c.args.now c.args.self.now) k (number_of (seat_of c.args.self.now.seats k) c.args.seq) in
    let same = ap₂ (λ n m. Finish n k m) at number in
    let done = ap (λ call. is_done (reply_to es call)) (sym same) ∙ ap is_done (sym (c.in-Ok.ensures.reply ds es h)) ∙ sym c.is_finished.ensures in
    let goes =
    made ds es _ c.later-now.result _ _ same at
    (subst (LiveIs ds _) (sym c.self-2.view_is) (c.in-Ok.ensures.after ds es h (open_held c.args.self.now.seats c.args.client is))) in
    elim c.if-is_finished.branch [
      | then-is_finished w ↦ finishes_ok ds es call _ c.args.self.now _ w.result-is (done ∙ w.if-is_finished.true) goes
      | else-is_finished w ↦ finishes_not ds es call _ c.args.self.now _ w.result-is (done ∙ w.if-is_finished.false) goes
    ]
