-- What the threads of a race make of a core.
use Rattle.std.specs.Prelude.{◌≡◌, ◌≤◌, ◌+◌, ◌==◌, ℕ, zero, suc, Bool, true, false, List, [], ◌∷◌, ◌++◌, map, filter, reverse}
use Rattle.std.specs.List.{list_any}
use Rattle.input_types.specs.declared.message.Args.{Args}
use Rattle.dispatch_calls.specs.declared.call.Call.{Call}
use Rattle.dispatch_calls.specs.declared.call.Call.TheVariants.{Open, Pump, Tick, Finish}
use Rattle.dispatch_calls.specs.declared.reply.Reply.{Reply}
use Rattle.dispatch_history.specs.Ordered.{is_scripted, is_notified}
use Rattle.dispatch_history.specs.Settled.{Settled}
use Rattle.dispatch_core.specs.Machine.{IsLegal, steps}
use Rattle.turnstile.specs.History.{Entry as Called, of_zero}
use Rattle.replay_actors.specs.Lanes.{Own, notifies}
use Rattle.replay_actors.specs.Counting.{ticks, moves, idles}
use Rattle.replay_actors.specs.Finishing.{AreOrderly}

-- P holds of each
abbrev pub Each : {A : Type 0} → (A → Type 0) → List A → Type 0
Each P [] = Unit {0}
Each P (x ∷ xs) = P x × Each P xs

-- one of these seats bears the number
abbrev pub has_seat : List ℕ → ℕ → Bool
has_seat seats k = list_any (λ s. s == k) seats

-- so many seats, numbered from k on
abbrev pub seats_from : ℕ → ℕ → List ℕ
seats_from k zero = []
seats_from k (suc n) = k ∷ seats_from (k + 1) n

-- the numbers of these seats differ
abbrev pub SeatsDiffer : List ℕ → Type 0
SeatsDiffer [] = Unit {0}
SeatsDiffer (s ∷ seats) = (has_seat seats s ≡ false) × SeatsDiffer seats

-- the calls of a seat, newest first
abbrev pub calls_of_seat : ℕ → List (Called Call Reply) → List Call
calls_of_seat s h = map (λ e. e.1) (filter (λ e. e.0 == s) h)

-- the calls that hand in args, newest first
abbrev pub notified_in : List (Called Call Reply) → List Call
notified_in h = filter (λ call. is_notified call == 1) (map (λ e. e.1) h)

-- a pump, a tick or a finish hands in moment 0
abbrev pub IsTimeless : Call → Type 0
IsTimeless (Pump now) = now ≡ 0
IsTimeless (Tick now) = now ≡ 0
IsTimeless (Finish now channel seq) = now ≡ 0
IsTimeless call = Unit {0}

-- a call opens a channel
abbrev pub opens : Call → Bool
opens (Open terms) = true
opens call = false

-- a call that scripts make bears the number of a script lane's seat, and no other call does
abbrev pub IsScripts : List ℕ → Called Call Reply → Type 0
IsScripts seats e = has_seat seats e.0 ≡ (is_scripted e.1 == 1)

-- each script lane has a seat, whose calls are its steps in order
abbrev pub ScriptsMade : List ℕ → List (List Call) → List (Called Call Reply) → Type 0
ScriptsMade [] [] h = Unit {0}
ScriptsMade (s ∷ seats) (calls ∷ scripts) h = (calls_of_seat s h ≡ reverse calls) × ScriptsMade seats scripts h
ScriptsMade seats scripts h = ⊥

-- What a race made of a core whose caller had opened the channels, with these args, these script lanes, lane 1 first, and their seats, where
-- the owners of these channels finish what they are given:
pub record IsRace (displays : List ℕ) (finishing : ℕ → Bool) (opened : List Own) (cooked : List (ℕ × Args)) (scripts : List (List Call))
    (seats : List ℕ) (h : List (Called Call Reply)) : Type 0 where
  -- each call was answered as those before it say
  pub legal : IsLegal displays h
  -- the caller's calls come first, and no later one opens a channel
  pub later : List (Called Call Reply)
  pub begins : h ≡ later ++ of_zero opened
  pub no_open : Each (λ e. opens e.1 ≡ false) later
  -- pumps, ticks and finishes hand in moment 0
  pub timeless : Each (λ e. IsTimeless e.1) h
  -- the args were handed in, in order
  pub args : notified_in h ≡ reverse (notifies cooked)
  -- the steps of each script lane were made, in order, by a seat of its own, and no other calls of scripts
  pub scripts_made : ScriptsMade seats scripts h
  pub seats_differ : SeatsDiffer seats
  pub alone : Each (IsScripts seats) h
  -- each finish is of a message that was given before, on a channel that finishes, and no two are of one message
  pub orderly : AreOrderly finishing (steps h)
  -- nothing is left to do
  pub settled : Settled displays (steps h) finishing
  -- a tick follows a pump that dispatched args or repeated a key, but for one
  pub few_ticks : ticks (steps h) ≤ moves (steps h) + 1
  -- five lanes give up after 16,384 calls for nothing, and what is left finds nothing once for each of at most 64 channels and for args
  pub few_idles : idles (steps h) ≤ 81985
