-- What is known of an answer.
use Rattle.std.proofs.Common.{Result, Ok, Err, IfOk}

-- what holds of an answer by five facts
pub if_ok_five : {A E : Type 0} (r : Result A E) (P Q R S T V : A → Type 0)
    → ((x : A) → P x → Q x → R x → S x → T x → V x) → IfOk r P → IfOk r Q → IfOk r R → IfOk r S → IfOk r T → IfOk r V
if_ok_five (Ok x) P Q R S T V f p q r s t = f x p q r s t
if_ok_five (Err x) P Q R S T V f p q r s t = p
