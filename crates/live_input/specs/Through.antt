-- Finishing every message of a client up to one.
use Rattle.std.specs.Prelude.{ℕ, ◌≡◌, ◌≤◌, Bool, true, false, nat_le, List, Option, Some, None, option_map, Result, Ok, Err, if◌then◌else◌}
use Rattle.dispatch_calls.specs.declared.call.Call.{Call}
use Rattle.dispatch_calls.specs.declared.call.Call.TheVariants.{Finish}
use Rattle.dispatch_history.specs.Delivery.{is_finished, oldest}
use Rattle.dispatch_history.specs.Effect.{Effect, past_of}
use Rattle.dispatch_history.specs.History.{received}
use Rattle.dispatch_history.specs.Ordered.{extend}
use Rattle.dispatcher.specs.Memory.{MayCount}
use Rattle.live_input.specs.declared.refused.FinishRefused.{FinishRefused}
use Rattle.live_input.specs.declared.refused.FinishRefused.TheVariants.{NotOpen, UnknownSeq, Memory}
use Rattle.live_input.specs.Settling.{Reaches, Settles}
use Rattle.live_input.specs.Standing.{LiveIs}
use Rattle.live_input.specs.State.{LiveState}

-- a message is finished next if it is not later than the last one
abbrev pub through_call : (now channel last : ℕ) → (oldest : Option ℕ) → Option Call
through_call now c last None = None
through_call now c last (Some seq) = if nat_le seq last then Some (Finish now c seq) else None

-- The oldest published and unfinished message of the channel is finished next, unless it is later than the last one.
abbrev pub next_through : (now channel last : ℕ) → List Effect → Option Call
next_through now c last es = through_call now c last (option_map (λ m. m.seq) (oldest es c))

-- the owner of the channel received so many messages
abbrev pub has_received : (channel last : ℕ) → List Effect → Bool
has_received c last es = nat_le last (received (past_of es) c)

-- Some of these calls were made, and one more can no longer be counted.
pub record Stops (displays : List ℕ) (next : List Effect → Option Call) (es : List Effect) (s : LiveState) : Type 0 where
  pub reached : Reaches displays next es s
  pub uncounted : MayCount (extend displays es reached.calls) → ⊥

-- The messages are finished one by one at this moment, which is then the clock. If the client did not receive the last
-- one, nothing changes. If memory runs out, the first of them are finished.
abbrev pub FinishesThrough : List ℕ → (now channel last : ℕ) → List Effect → Result (Unit {0}) FinishRefused → (old new : LiveState) → Type 0
FinishesThrough displays now c last es (Ok done) old new =
    (has_received c last es ≡ true) × (new.clock ≡ now) × Settles displays (next_through now c last) es new
FinishesThrough displays now c last es (Err NotOpen) old new = ⊥
FinishesThrough displays now c last es (Err UnknownSeq) old new = (has_received c last es ≡ false) × (new ≡ old)
FinishesThrough displays now c last es (Err Memory) old new =
    (has_received c last es ≡ true) × (new.clock ≡ now) × Stops displays (next_through now c last) es new

-- After that every message up to the last one is finished.
abbrev pub ThroughLaw : Type 0
ThroughLaw =
    (displays : List ℕ) (now : ℕ) (es : List Effect) (s : LiveState) (c last k : ℕ)
    → LiveIs displays es s → has_received c last es ≡ true → next_through now c last es ≡ None
    → 1 ≤ k → k ≤ last → is_finished (past_of es) c k ≡ true
