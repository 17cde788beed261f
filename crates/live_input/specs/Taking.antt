-- How far a client is closed, if memory runs out.
use Rattle.std.specs.Prelude.{ℕ, ◌≡◌, true, false, List, [], ◌∷◌, None}
use Rattle.dispatch_calls.specs.declared.call.Call.{Call}
use Rattle.dispatch_calls.specs.declared.call.Call.TheVariants.{Windows, FocusOn, Receive, Finish}
use Rattle.focus_resolver.specs.Resolver.{is_at}
use Rattle.dispatch_history.specs.Effect.{Effect, past_of}
use Rattle.dispatch_history.specs.Focus.{requested}
use Rattle.dispatch_history.specs.History.{snapshot}
use Rattle.dispatch_history.specs.Legal.{answered}
use Rattle.dispatch_history.specs.Ordered.{extend}
use Rattle.live_input.specs.Closing.{without}
use Rattle.live_input.specs.Standing.{LiveIs}
use Rattle.live_input.specs.State.{LiveState}

-- The call takes something away from a channel: its window, a focus request, or a message. Keys go where they went.
abbrev pub Takes : (now channel : ℕ) → List Effect → Call → Type 0
Takes now c es (Windows t ws) = (t ≡ now) × (ws ≡ without c (snapshot (past_of es)))
Takes now c es (FocusOn t z r keys) =
    (t ≡ now) × (r ≡ None) × (keys ≡ false) × (is_at (requested (past_of es) z) c ≡ true)
Takes now c es (Receive k) = k ≡ c
Takes now c es (Finish t k seq) = (t ≡ now) × (k ≡ c)
Takes now c es call = ⊥

-- each of these calls, made in order, takes something away when it is made
abbrev pub TakeAll : List ℕ → (now channel : ℕ) → List Effect → List Call → Type 0
TakeAll displays now c es [] = Unit {0}
TakeAll displays now c es (call ∷ calls) = Takes now c es call × TakeAll displays now c (answered displays call es) calls

-- the service stands for a history with some such calls
pub record TakenInPart (displays : List ℕ) (now channel : ℕ) (es : List Effect) (s : LiveState) : Type 0 where
  pub calls : List Call
  pub take : TakeAll displays now channel es calls
  pub is : LiveIs displays (extend displays es calls) s
