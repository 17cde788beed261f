-- The number of the pair that the dispatcher gives.
use Rattle.std.proofs.Common.{◌≡◌, ℕ, List, Option, Some, None, option_map, refl, sym, ap, ◌∙◌}
use Rattle.input_types.specs.declared.message.Message.{Message}
use Rattle.dispatch_history.specs.Effect.{Effect}
use Rattle.dispatch_history.specs.Delivery.{delivery, oldest}
use Rattle.dispatcher.specs.Access.{oldest_delivery}
use Rattle.live_input.proofs.closing.oldest.Goals as goal

abbrev number : Option (ℕ × ℕ) → Option ℕ
number o = option_map (λ p. p.0) o

number_is : (es : List Effect) (c : ℕ) (o : Option Message) → oldest es c ≡ o → number (oldest_delivery es c) ≡ option_map (λ m. m.seq) o
number_is es c None q =
    let here : oldest_delivery es c ≡ None = rw q refl in
    ap number here
number_is es c (Some m) q =
    let here : oldest_delivery es c ≡ Some (m.seq, delivery es c m.seq) = rw q refl in
    ap number here

pub returns-in-Some : goal.returns-in-Some
returns-in-Some c = λ es s there.
    ap number (sym c.in-Some.is ∙ c.oldest.ensures.value es s there) ∙ number_is es c.args.channel (oldest es c.args.channel) refl

pub returns-in-None : goal.returns-in-None
returns-in-None c = λ es s there.
    ap number (sym c.in-None.is ∙ c.oldest.ensures.value es s there) ∙ number_is es c.args.channel (oldest es c.args.channel) refl
