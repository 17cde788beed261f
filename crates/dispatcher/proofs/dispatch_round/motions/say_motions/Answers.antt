use Rattle.std.proofs.Common.{◌≤◌, refl, ap, sym, ◌∙◌, subst}
use Rattle.bits32.specs.Set.{is_in}
use Rattle.window_snapshot.specs.Mask.{mask_has}
use Rattle.input_types.specs.declared.motion.MotionAction.TheVariants.{Move}
use Rattle.routing_rules.specs.Outgoing.{listing, plain}
use Rattle.route_split.specs.declared.sends.Sends.TheVariants.{One}
use Rattle.std.specs.Option.{option_copied}
use Rattle.dispatcher.specs.CancelSynthesis.Tracked.{pointers_of}
use Rattle.routing_rules.proofs.Listings.{has_id}
use Rattle.dispatcher.proofs.DispatchRound.Getting.{of_some, gets_found, gets_lost, gets_pilfered, gets_none}
use Rattle.dispatcher.proofs.dispatch_round.motions.say_motions.Goals as goal

pub say_sent-requires-clause-before : goal.say_sent-requires-clause-before
say_sent-requires-clause-before c i =
    c.ids_of-before.ensures i ∙ ap (has_id i) (c.pointers.ensures ∙ ap (λ t. pointers_of t c.in-Some.motion.now.device) c.input.ensures)

pub returns-in-Some-moving : goal.returns-in-Some-moving
returns-in-Some-moving c =
    let m = c.in-Some.motion.now in
    let ids = c.in-Some-moving.ids in
    gets_found c.args.round.now c.args.touches.now c.args.to.now c.args.channels.now c.say_moves.new.channels m
    (One (plain m.device Move (listing (λ i. is_in i ids) m.pointers)))
    c.ids_of-before.result
    (mask_has c.args.round.now.watchers c.args.to.now.window)
    (option_copied c.args.losses)
    (ap option_copied c.in-Some.is)
    (subst (λ n. 1 ≤ n) c.get-number.ensures.value c.get-number.ensures.range.0)
    (subst (λ n. n ≤ 8) c.get-number.ensures.value c.get-number.ensures.range.1)
    refl
    (λ i. c.ids_of-before.ensures i ∙ ap (has_id i) (c.pointers.ensures ∙ ap (λ t. pointers_of t m.device) c.input.ensures))
    (λ s held left listed watching. of_some _ c.moving.result ids c.in-Some-moving.is c.moving.ensures s held left)
    c.say_moves.ensures

pub returns-in-Some-losses : goal.returns-in-Some-losses
returns-in-Some-losses c =
    gets_pilfered c.args.round.now c.args.touches.now c.args.to.now c.args.channels.now c.say_pilfered.new.channels (option_copied c.args.losses) c.in-Some-losses.losses.now
    (ap option_copied c.in-None.is)
    (ap option_copied c.in-Some-losses.is)
    c.say_pilfered.ensures

pub returns-then-may_take : goal.returns-then-may_take
returns-then-may_take c =
    gets_lost c.args.round.now c.args.touches.now c.args.to.now c.args.channels.now c.say_losses.new.channels (option_copied c.args.losses)
    (ap option_copied c.in-None.is)
    (sym c.may_take.ensures ∙ c.if-may_take.true)
    c.say_losses.ensures

pub returns-else-may_take : goal.returns-else-may_take
returns-else-may_take c =
    gets_none c.args.round.now c.args.touches.now (option_copied c.args.losses) c.args.to.now c.args.channels.now (ap option_copied c.in-None.is)
    (sym c.may_take.ensures ∙ c.if-may_take.false)
