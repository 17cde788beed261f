-- The history that the lanes of a race leave behind.
use Rattle.std.specs.Prelude.{◌≡◌, ℕ, ◌+◌, ◌<◌, ◌≤◌, min, Bool, true, false, List, [], ◌∷◌, length, reverse, slice_get, Some}
use Rattle.input_types.specs.declared.message.Args.{Args}
use Rattle.dispatch_calls.specs.declared.call.Call.{Call}
use Rattle.dispatch_calls.specs.declared.call.Call.TheVariants.{Open}
use Rattle.dispatch_calls.specs.declared.reply.Reply.{Reply}
use Rattle.dispatch_calls.specs.declared.reply.Reply.TheVariants.{Opened}
use Rattle.dispatch_core.specs.Machine.{IsLegal}
use Rattle.turnstile.specs.History.{Entry as Called, calls_by}
use Rattle.replay_actors.specs.Lanes.{Own, calls_made, notifies, pumping, pumps, receiving, receives}

-- a channel was opened
abbrev pub is_opening : Call → Reply → Bool
is_opening (Open terms) (Opened k) = true
is_opening call reply = false

-- these are the first calls of a history, and each opened a channel
abbrev pub OnlyOpens : List Own → Type 0
OnlyOpens [] = Unit {0}
OnlyOpens (e ∷ own) = (e.0 ≡ length own) × (is_opening e.1 e.2 ≡ true) × OnlyOpens own

-- The caller, number 0, opened the channels; then each lane did its calls: number 1 handed in the args, number 2 dispatched until 16,384 idle
-- answers, the numbers from 3 on made the steps of one script each, and up to four applications took messages until 16,384 answers without
-- one. No other number made a call
pub record Raced (displays : List ℕ) (finishing : ℕ → Bool) (channels : ℕ) (opens : List Own) (cooked : List (ℕ × Args))
    (scripts : List (List Call)) (h : List (Called Call Reply)) : Type 0 where
  pub legal : IsLegal displays h
  pub only_opens : OnlyOpens opens
  pub opened : calls_by 0 h ≡ opens
  pub reader : calls_made (calls_by 1 h) ≡ reverse (notifies cooked)
  pub dispatcher : pumping (calls_by 2 h) ≡ pumps 16384
  pub scripted : (l : ℕ) (steps : List Call) → slice_get scripts l ≡ Some steps → calls_made (calls_by (3 + l) h) ≡ reverse steps
  pub applications : (j : ℕ) → j < min 4 channels → (c : ℕ) × (receiving finishing channels j (calls_by (3 + length scripts + j) h) ≡ receives 16384 c)
  pub others : (k : ℕ) → 3 + length scripts + min 4 channels ≤ k → calls_by k h ≡ []
