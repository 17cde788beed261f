-- In a pilfer that neither succeeded nor lacks a spy, the spy holds nothing.
use Rattle.std.proofs.Common.{◌≡◌, max, refl, sym, ap, ◌∙◌, subst}
use Rattle.dispatch_calls.specs.declared.call.Call.TheVariants.{Pilfer}
use Rattle.dispatch_history.specs.Reply.{reply_to}
use Rattle.live_input.specs.Answers.{is_done, is_no_spy}
use Rattle.live_input.specs.Standing.{LiveIs}
use Rattle.live_input.specs.State.{LiveState, latest}
use Rattle.live_input.proofs.Handing.{made}
use Rattle.live_input.proofs.live.Live.pilfer.Goals as goal

pub returns-then-is_done-clause-after : goal.returns-then-is_done-clause-after
returns-then-is_done-clause-after c = λ ds es h is.
    let at : c.later-now.result ≡ latest c.args.now c.args.self.now =
    c.later-now.ensures ∙ ap (λ (s : LiveState). max c.args.now s.clock) c.self.view_is in
    let same = ap (λ n. Pilfer n c.args.client.channel c.args.device) at in
    let replied = sym (ap (reply_to es) same) in
    let goes =
    made ds es _ c.later-now.result _ _ same at (subst (LiveIs ds _) (sym c.self-2.view_is) (c.in-Ok.ensures.after ds es h refl tt)) in
    (ap is_done (replied ∙ sym (c.in-Ok.ensures.reply ds es h)) ∙ sym c.is_done.ensures ∙ c.if-is_done.true, goes)

pub returns-then-is_no_spy-clause-after : goal.returns-then-is_no_spy-clause-after
returns-then-is_no_spy-clause-after c = λ ds es h is.
    let at : c.later-now.result ≡ latest c.args.now c.args.self.now =
    c.later-now.ensures ∙ ap (λ (s : LiveState). max c.args.now s.clock) c.self.view_is in
    let same = ap (λ n. Pilfer n c.args.client.channel c.args.device) at in
    let replied = sym (ap (reply_to es) same) in
    let goes =
    made ds es _ c.later-now.result _ _ same at (subst (LiveIs ds _) (sym c.self-2.view_is) (c.in-Ok.ensures.after ds es h refl tt)) in
    (ap is_no_spy (replied ∙ sym (c.in-Ok.ensures.reply ds es h)) ∙ sym c.is_no_spy.ensures ∙ c.if-is_no_spy.true, goes)

pub returns-in-Ok-clause-after : goal.returns-in-Ok-clause-after
returns-in-Ok-clause-after c = λ ds es h is.
    let at : c.later-now.result ≡ latest c.args.now c.args.self.now =
    c.later-now.ensures ∙ ap (λ (s : LiveState). max c.args.now s.clock) c.self.view_is in
    let same = ap (λ n. Pilfer n c.args.client.channel c.args.device) at in
    let replied = sym (ap (reply_to es) same) in
    let goes =
    made ds es _ c.later-now.result _ _ same at (subst (LiveIs ds _) (sym c.self-2.view_is) (c.in-Ok.ensures.after ds es h refl tt)) in (
      ap is_done (replied ∙ sym (c.in-Ok.ensures.reply ds es h)) ∙ sym c.is_done.ensures ∙ c.if-is_done.false,
      ap is_no_spy (replied ∙ sym (c.in-Ok.ensures.reply ds es h)) ∙ sym c.is_no_spy.ensures ∙ c.if-is_no_spy.false,
      goes,
    )
