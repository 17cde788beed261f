use Rattle.std.proofs.Common.{◌∷◌, [], length, ◌==◌, sym, ap, ◌∙◌, subst}
use Rattle.bits32.specs.Set.{is_in}
use Rattle.input_types.specs.declared.motion.MotionAction.TheVariants.{Move}
use Rattle.routing_rules.specs.Outgoing.{listing, plain}
use Rattle.routing_rules.specs.Watching.{outside_of}
use Rattle.route_split.specs.Sending.{IsSent, sent_rest}
use Rattle.route_split.proofs.SendingLaws.{lost_sent, kept_sent, some_move, none_move}
use Rattle.route_split.proofs.sending.sends_rest.Goals as goal

pub returns-then-bits-ne0 : goal.returns-then-bits-ne0
returns-then-bits-ne0 c last listed within =
    lost_sent c.args.motion.now c.args.watched last (λ i. is_in i c.args.before) (λ i. is_in i c.args.later) c.lost_of-lost.result (λ e. c.if-bits-ne0.true (c.bits.ensures ∙ e))
    c.lost_of-lost.ensures listed within

pub returns-then-not-is_empty : goal.returns-then-not-is_empty
returns-then-not-is_empty c last listed within =
    kept_sent c.args.motion.now c.args.watched last (λ i. is_in i c.args.before) (λ i. is_in i c.args.later) c.lost_of-lost.result (sym c.bits.ensures ∙ c.if-bits-ne0.false) c.lost_of-lost.ensures
    ∙ some_move c.args.motion.now.device (listing (λ i. is_in i c.args.later) c.args.motion.now.pointers) _
    (ap (λ ps. length ps == 0) (sym c.part-moving.ensures) ∙ sym c.is_empty.ensures ∙ c.if-not-is_empty.true)
    ∙ ap (λ ps. plain c.args.motion.now.device Move ps ∷ []) (sym c.part-moving.ensures) ∙ ap (λ m. m ∷ []) (sym c.plain.ensures)

pub returns-in-Some : goal.returns-in-Some
returns-in-Some c last listed within =
    subst
    (λ r. IsSent r (sent_rest c.args.motion.now c.args.watched last (λ i. is_in i c.args.before) (λ i. is_in i c.args.later)) c.args.motion.now.device last (λ i. is_in i c.args.before))
    (sym c.sends_outside.ensures)
    (kept_sent c.args.motion.now c.args.watched last (λ i. is_in i c.args.before) (λ i. is_in i c.args.later) c.lost_of-lost.result (sym c.bits.ensures ∙ c.if-bits-ne0.false) c.lost_of-lost.ensures
    ∙ none_move c.args.motion.now.device (listing (λ i. is_in i c.args.later) c.args.motion.now.pointers) _
    (ap (λ ps. length ps == 0) (sym c.part-moving.ensures) ∙ sym c.is_empty.ensures ∙ c.if-not-is_empty.false)
    ∙ ap (outside_of c.args.motion.now.device) c.in-Some.is)

pub returns-in-None : goal.returns-in-None
returns-in-None c last listed within =
    kept_sent c.args.motion.now c.args.watched last (λ i. is_in i c.args.before) (λ i. is_in i c.args.later) c.lost_of-lost.result (sym c.bits.ensures ∙ c.if-bits-ne0.false) c.lost_of-lost.ensures
    ∙ none_move c.args.motion.now.device (listing (λ i. is_in i c.args.later) c.args.motion.now.pointers) _
    (ap (λ ps. length ps == 0) (sym c.part-moving.ensures) ∙ sym c.is_empty.ensures ∙ c.if-not-is_empty.false)
    ∙ ap (outside_of c.args.motion.now.device) c.in-None.is
