-- Proved facts about a client that is closed. Each law is the clause of a function of its own.
use Rattle.std.specs.Prelude.{ℕ, ◌≡◌, ◌==◌, false, true, List}
use Rattle.dispatch_calls.specs.declared.call.Call.{Call}
use Rattle.dispatch_history.specs.Effect.{Effect, past_of}
use Rattle.dispatch_history.specs.Focus.{asked, is_target, key_target}
use Rattle.dispatch_history.specs.History.{live}
use Rattle.dispatch_history.specs.Keys.{keys}
use Rattle.dispatch_history.specs.Ordered.{extend}
use Rattle.live_input.specs.Closing.{forgotten, hidden}
use Rattle.live_input.specs.Settling.{Follows, next_left}
use Rattle.live_input.specs.Taking.{TakeAll}

-- From one history to another, keys go where they went: to the focus of the same display, and to the same key target
-- unless it was the channel. Every other live channel holds the keys that it held.
pub record KeysStay (channel : ℕ) (old new : List Effect) : Type 0 where
  pub display_is : asked (past_of new) ≡ asked (past_of old)
  pub target_is : is_target (past_of old) channel ≡ false → key_target (past_of new) ≡ key_target (past_of old)
  pub keys_are : (d : ℕ) → (d == channel) ≡ false → live (past_of old) d ≡ true → keys new d ≡ keys old d

-- Closing a client leaves keys where they go, and with all others that hold them.
abbrev pub ClosedKeysLaw : Type 0
ClosedKeysLaw =
    (displays : List ℕ) (now c : ℕ) (es : List Effect) (calls : List Call)
    → let fs = forgotten displays now c (hidden displays now c es) in
    Follows (next_left now c) displays fs calls → KeysStay c es (extend displays fs calls)

-- So does a part of it, if memory runs out.
abbrev pub PartKeysLaw : Type 0
PartKeysLaw =
    (displays : List ℕ) (now c : ℕ) (es : List Effect) (calls : List Call)
    → TakeAll displays now c es calls → KeysStay c es (extend displays es calls)
