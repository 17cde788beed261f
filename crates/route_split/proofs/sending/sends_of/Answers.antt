use Rattle.std.proofs.Common.{sym, ap, ◌∙◌, subst}
use Rattle.bits32.specs.Set.{is_in}
use Rattle.routing_rules.specs.Outgoing.{sent_motion}
use Rattle.route_split.specs.Sending.{IsSent, OnlyNew}
use Rattle.routing_rules.specs.Watching.{is_watching}
use Rattle.route_split.proofs.SendingLaws.{none_sent}
use Rattle.route_split.proofs.sending.sends_of.Goals as goal

pub returns-in-Some : goal.returns-in-Some
returns-in-Some c s w e listed new =
    let is = sym c.changed.ensures ∙ c.in-Some.is in
    subst (λ o. IsSent c.sends_changed.result (sent_motion s c.args.motion.now o w (λ i. is_in i c.args.before) (λ i. is_in i c.args.later)) c.args.motion.now.device (s.last c.args.motion.now.device) (λ i. is_in i c.args.before)) (sym is)
    (c.sends_changed.ensures s w (e ∙ ap (λ o. is_watching s c.args.motion.now o w) is) listed (subst (λ o. OnlyNew o (λ i. is_in i c.args.before) (λ i. is_in i c.args.later)) is new))

pub returns-in-None : goal.returns-in-None
returns-in-None c s w e listed new =
    let is = sym c.changed.ensures ∙ c.in-None.is in
    subst (λ o. IsSent c.sends_rest.result (sent_motion s c.args.motion.now o w (λ i. is_in i c.args.before) (λ i. is_in i c.args.later)) c.args.motion.now.device (s.last c.args.motion.now.device) (λ i. is_in i c.args.before)) (sym is)
    (subst (λ ms. IsSent c.sends_rest.result ms c.args.motion.now.device (s.last c.args.motion.now.device) (λ i. is_in i c.args.before)) (sym (none_sent s c.args.motion.now w (λ i. is_in i c.args.before) (λ i. is_in i c.args.later)))
    (c.sends_rest.ensures (s.last c.args.motion.now.device) listed (subst (λ o. OnlyNew o (λ i. is_in i c.args.before) (λ i. is_in i c.args.later)) is new)))
