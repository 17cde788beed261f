-- The first channel, and the channels behind it.
use Rattle.std.proofs.Common.{◌≡◌, ◌∙◌, List, ◌∷◌, ap, sym, arith, ◌-◌, length, take, drop, map}
use Rattle.window_snapshot.specs.Mask.{mask_has}
use Rattle.session_plan.specs.View.{channel_view}
use Rattle.session_plan.specs.declared.plan.ChannelPlan.{ChannelPlan}
use Rattle.replay_actors.specs.Session.{channel_of}
use Rattle.command_answers.specs.Race.{finishes_from}
use Rattle.command_answers.proofs.Finishing.{finishing_with, finishing_without, first_and_rest}
use Rattle.command_answers.proofs.race.+finishing.Goals as goal

pub returns-then-first : goal.returns-then-first
returns-then-first t c = λ repeats d.
    let all = c.args.channels.now in
    let first = c.first-item.result in
    let rest : List ChannelPlan = take (length all - 1) (drop 1 all) in
    let whole : all ≡ first ∷ rest = first_and_rest all first (omega (arith, c.in-len1-up.len_at_least)) c.first-item.is in
    ap (λ m. mask_has m d) c.mask_with.ensures
    ∙ finishing_with c.args.number (channel_of repeats (channel_view first)) (map (channel_of repeats) (map channel_view rest)) c.finishing-mask.result
    (omega (arith, c.requires)) (omega (arith, c.requires, c.in-len1-up.len_at_least))
    c.if-first.true
    (c.finishing-mask.ensures repeats) d
    ∙ ap (λ (cs : List ChannelPlan). finishes_from c.args.number (map (channel_of repeats) (map channel_view cs)) d) (sym whole)

pub returns-else-first : goal.returns-else-first
returns-else-first t c = λ repeats d.
    let all = c.args.channels.now in
    let first = c.first-item.result in
    let rest : List ChannelPlan = take (length all - 1) (drop 1 all) in
    let whole : all ≡ first ∷ rest = first_and_rest all first (omega (arith, c.in-len1-up.len_at_least)) c.first-item.is in
    finishing_without c.args.number (channel_of repeats (channel_view first)) (map (channel_of repeats) (map channel_view rest)) c.finishing-mask.result
    c.if-first.false
    (c.finishing-mask.ensures repeats) d
    ∙ ap (λ (cs : List ChannelPlan). finishes_from c.args.number (map (channel_of repeats) (map channel_view cs)) d) (sym whole)
