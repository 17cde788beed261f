-- The counts of the channel, and whether something is unfinished there.
use Rattle.std.proofs.Common.{◌&&◌, sym, ap, ◌∙◌, subst}
use Rattle.std.specs.Prelude.{is_some}
use Rattle.dispatcher.proofs.Laws.Standing.{after_of}
use Rattle.dispatch_history.specs.Delivery.{oldest}
use Rattle.live_input.specs.Standing.{LiveIs}
use Rattle.live_input.proofs.ChokedNext.{choked_opened, is_past_by, some_mapped}
use Rattle.live_input.proofs.live.Live.is_choked_next.Goals as goal

pub returns-then-is_past : goal.returns-then-is_past
returns-then-is_past c = λ ds es h opened.
    let there = subst (LiveIs ds es) (sym c.self.view_is) h in
    let after = after_of es c.self.inside.dispatcher there.stands in
    let past = sym (is_past_by c.args.most c.args.choked es c.args.channel c.unreceived-count.result c.mask_has-was.result c.mask_has-was.ensures (c.unreceived-count.ensures es after opened)) ∙ sym c.is_past.ensures ∙ c.if-is_past.true in
    c.is_some.ensures
    ∙ ap is_some (c.oldest.ensures es after opened)
    ∙ some_mapped (oldest es c.args.channel)
    ∙ sym (choked_opened ds es c.args.self.now c.args.most c.args.choked c.args.channel h c.requires opened ∙ ap (λ b. b && is_some (oldest es c.args.channel)) past)

pub returns-else-is_past : goal.returns-else-is_past
returns-else-is_past c = λ ds es h opened.
    let there = subst (LiveIs ds es) (sym c.self.view_is) h in
    let after = after_of es c.self.inside.dispatcher there.stands in
    let past = sym (is_past_by c.args.most c.args.choked es c.args.channel c.unreceived-count.result c.mask_has-was.result c.mask_has-was.ensures (c.unreceived-count.ensures es after opened)) ∙ sym c.is_past.ensures ∙ c.if-is_past.false in
    sym (choked_opened ds es c.args.self.now c.args.most c.args.choked c.args.channel h c.requires opened ∙ ap (λ b. b && is_some (oldest es c.args.channel)) past)
