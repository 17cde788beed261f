use Rattle.std.proofs.Common.{ℕ, Bool, ◌≡◌, sym, ap, ◌∙◌}
use mathlib.Core.Path.{fun_ext}
use Rattle.bits32.specs.Set.{is_in}
use Rattle.routing_rules.specs.Scene.{Moves}
use Rattle.routing_rules.specs.Given.{mark}
use Rattle.routing_rules.specs.Outgoing.{after}
use Rattle.route_split.proofs.SentBy.{only_new, sent_by}
use Rattle.route_split.proofs.touches.Touches.sends.Goals as goal

pub returns : goal.returns
returns c s held left listed watching =
    let m = c.args.motion.now in
    let w = c.args.window in
    let d = m.device in
    let before : ℕ → Bool = λ i. is_in i c.args.before in
    let later : ℕ → Bool = λ i. is_in i c.held-later.result in
    let p : s.holds w d ≡ before = fun_ext held in
    let q : after s (mark s (Moves m)) w d ≡ later = fun_ext (λ i. left i ∙ sym (c.held-later.ensures i)) in
    sent_by s m w c.sends_of.result before later p q
    (c.sends_of.ensures s w watching (λ i b l. listed w i (ap (λ (g : ℕ → Bool). g i) p ∙ b)) (only_new s m w before later p q))
