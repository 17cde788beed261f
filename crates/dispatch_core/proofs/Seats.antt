-- The entries of a core, and those of a turnstile.
use Rattle.std.proofs.Common.{◌≡◌, List, [], ◌∷◌, refl, ap}
use Rattle.dispatch_calls.specs.declared.call.Entry.{Entry}
use Rattle.dispatch_core.specs.Machine.{called, steps}
use Rattle.dispatch_core.specs.Recorded.{history_of}

-- both ways lead to one history
pub one_history : (entries : List Entry) → steps (called entries) ≡ history_of entries
one_history [] = refl
one_history (e ∷ es) = ap (λ h. (e.call, e.reply) ∷ h) (one_history es)
