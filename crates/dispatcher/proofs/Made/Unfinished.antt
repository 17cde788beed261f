-- A channel without an oldest unfinished message has none.
use Rattle.std.proofs.Common.{◌≡◌, ℕ, List, Option, Some, None, refl}
use Rattle.std.specs.Prelude.{option_map}
use Rattle.input_types.specs.declared.message.Message.{Message}
use Rattle.dispatch_history.specs.Delivery.{delivery, oldest}
use Rattle.dispatch_history.specs.Effect.{Effect}

-- a channel that is not among those that may have an unfinished message has none
pub none_of : (es : List Effect) (c : ℕ) → option_map {U = ℕ × ℕ} (λ m. (m.seq, delivery es c m.seq)) (oldest es c) ≡ None → oldest es c ≡ None
none_of es c e = by_oldest (oldest es c) e
  where
    by_oldest : (o : Option Message) → option_map {U = ℕ × ℕ} (λ m. (m.seq, delivery es c m.seq)) o ≡ None → o ≡ None
    by_oldest None f = refl
    by_oldest (Some m) f = absurd (cc f)
