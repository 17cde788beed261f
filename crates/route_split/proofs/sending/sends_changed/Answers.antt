use Rattle.std.proofs.Common.{sym, ap, ◌∙◌, subst}
use Rattle.bits32.specs.Set.{is_in}
use Rattle.route_split.specs.Sending.{IsSent, sent_rest}
use Rattle.route_split.proofs.SendingLaws.{given_sent, up_sent, rest_sent, within_before}
use Rattle.route_split.proofs.sending.sends_changed.Goals as goal

pub returns-then-is_given : goal.returns-then-is_given
returns-then-is_given c s w e listed new =
    subst (λ ms. IsSent c.sends_down.result ms c.args.motion.now.device (s.last c.args.motion.now.device) (λ i. is_in i c.args.before))
    (sym (given_sent s c.args.motion.now c.args.pointer w (λ i. is_in i c.args.before) (λ i. is_in i c.args.later) c.requires (sym c.is_given.ensures ∙ c.if-is_given.true)))
    (c.sends_down.ensures c.args.motion.now.device (s.last c.args.motion.now.device) (λ i. is_in i c.args.before))

pub returns-then-goes_up : goal.returns-then-goes_up
returns-then-goes_up c s w e listed new =
    subst (λ ms. IsSent c.sends_up.result ms c.args.motion.now.device (s.last c.args.motion.now.device) (λ i. is_in i c.args.before))
    (sym (up_sent s c.args.motion.now c.args.pointer w (λ i. is_in i c.args.before) (λ i. is_in i c.args.later) c.requires (sym c.is_given.ensures ∙ c.if-is_given.false) (sym c.goes_up.ensures ∙ c.if-goes_up.true)))
    (c.sends_up.ensures c.args.motion.now.device (s.last c.args.motion.now.device) (λ i. is_in i c.args.before))

pub returns : goal.returns
returns c s w e listed new =
    subst (λ ms. IsSent c.sends_rest.result ms c.args.motion.now.device (s.last c.args.motion.now.device) (λ i. is_in i c.args.before))
    (ap (λ o. sent_rest c.args.motion.now o (s.last c.args.motion.now.device) (λ i. is_in i c.args.before) (λ i. is_in i c.args.later)) c.watched_of.ensures
    ∙ sym (rest_sent s c.args.motion.now c.args.pointer w (λ i. is_in i c.args.before) (λ i. is_in i c.args.later) c.args.watches (sym c.is_given.ensures ∙ c.if-is_given.false) (sym c.goes_up.ensures ∙ c.if-goes_up.false) e))
    (c.sends_rest.ensures (s.last c.args.motion.now.device) listed (within_before c.args.pointer (λ i. is_in i c.args.before) (λ i. is_in i c.args.later) new (sym c.is_given.ensures ∙ c.if-is_given.false)))
