use Rattle.std.proofs.Common.{ℕ, Bool, ◌≡◌, sym, ◌∙◌}
use mathlib.Core.Path.{fun_ext}
use Rattle.bits32.specs.Set.{is_in}
use Rattle.input_types.specs.declared.motion.MotionAction.TheVariants.{Move}
use Rattle.routing_rules.specs.Scene.{Moves}
use Rattle.routing_rules.specs.Given.{mark}
use Rattle.routing_rules.specs.Outgoing.{after, listing, plain}
use Rattle.route_split.specs.declared.sends.Sends.TheVariants.{One}
use Rattle.route_split.proofs.SentBy.{sent_by, then_some}
use Rattle.route_split.proofs.touches.Touches.moving.Goals as goal

pub returns : goal.returns
returns c =
    then_some c.moving_of.result c.moving_of.ensures
    (λ ids outgoing s held left.
    let m = c.args.motion.now in
    let w = c.args.window in
    let d = m.device in
    let before : ℕ → Bool = λ i. is_in i c.args.before in
    let later : ℕ → Bool = λ i. is_in i c.held.result in
    let p : s.holds w d ≡ before = fun_ext held in
    let q : after s (mark s (Moves m)) w d ≡ later = fun_ext (λ i. left i ∙ sym (c.held.ensures i)) in
    sent_by s m w (One (plain d Move (listing (λ i. is_in i ids) m.pointers))) before later p q (outgoing s w))
