use Rattle.std.proofs.Common.{◌∷◌, [], ◌≡◌, ◌∙◌, sym, subst}
use Rattle.bits32.specs.Set.{is_in}
use Rattle.input_types.specs.declared.motion.MotionAction.TheVariants.{Move}
use Rattle.routing_rules.specs.Given.{changed}
use Rattle.routing_rules.specs.Outgoing.{sent_motion, listing, plain}
use Rattle.route_split.proofs.SendingLaws.{some_listed, move_sent}
use Rattle.route_split.proofs.sending.moving_of.Goals as goal

pub returns-then-has_some : goal.returns-then-has_some
returns-then-has_some c s w =
    let m = c.args.motion.now in
    let later = c.args.later in
    let same : c.args.before ≡ later = sym c.bits.ensures ∙ c.if-bits.false ∙ c.bits-2.ensures in
    subst
    (λ b. sent_motion s m (changed m) w (λ i. is_in i b) (λ i. is_in i later) ≡ plain m.device Move (listing (λ i. is_in i later) m.pointers) ∷ [])
    (sym same)
    (move_sent s m w (λ i. is_in i later) (c.is_lifted.ensures c.if-is_lifted.false)
    (some_listed (λ i. is_in i later) m.pointers (sym c.has_some.ensures ∙ c.if-has_some.true)))
