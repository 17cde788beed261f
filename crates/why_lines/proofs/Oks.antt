-- Texts that grow where there was memory.
use Rattle.std.proofs.Common.{◌≡◌, ℕ, List, ◌++◌, Result, Ok, Err, IfOk, ◌∙◌}

-- what was added last makes the whole
pub grown : {T E : Type 0} (r : Result T E) (new old words all : List ℕ) → IfOk r (λ x. new ≡ old ++ words) → old ++ words ≡ all → IfOk r (λ x. new ≡ all)
grown (Ok x) new old words all h e = h ∙ e
grown (Err x) new old words all h e = tt
