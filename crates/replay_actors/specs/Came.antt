-- How far the caller that settles a core has come.
use Rattle.std.specs.Prelude.{◌≡◌, ℕ, ◌+◌, ◌-◌, ◌*◌, Bool, List, ◌++◌, length, Option, Some, None}
use Rattle.key_repeat.specs.Due.{Sent}
use Rattle.dispatch_calls.specs.declared.call.Call.{Call}
use Rattle.dispatch_calls.specs.declared.reply.Reply.{Reply}
use Rattle.dispatch_history.specs.Effect.{stream}
use Rattle.dispatch_history.specs.Effects.{effects}
use Rattle.dispatch_history.specs.History.{History, received}
use Rattle.dispatch_history.specs.KeySent.{last_key, while_held}
use Rattle.dispatch_history.specs.Queue.{inbound}
use Rattle.dispatch_core.specs.Machine.{called, steps}
use Rattle.dispatch_core.specs.Recorded.{Recorded}
use Rattle.replay_actors.specs.Race.{Each}
use Rattle.replay_actors.specs.Settling.{Settling, strays, settling}
use Rattle.turnstile.specs.History.{Entry as Called}

-- Since the start, the caller, number 0, made these calls, which lead to this state.
pub record Came (finishing : ℕ → Bool) (start : Recorded) (stage : Settling) (now : Recorded) : Type 0 where
  pub since : List (Called Call Reply)
  pub entries_are : called now.entries ≡ since ++ called start.entries
  pub of_caller : Each (λ e. e.0 ≡ 0) since
  pub stands : settling finishing (steps since) ≡ stage
  pub displays_are : now.displays ≡ start.displays

-- the caller made no other call than was due
abbrev pub IsOnWay : Settling → Type 0
IsOnWay strays = ⊥
IsOnWay stage = Unit {0}

-- Since the start the caller made calls that were due, and no others, however far it came.
abbrev pub CameSome : (finishing : ℕ → Bool) → (start now : Recorded) → Type 0
CameSome finishing start now = (stage : Settling) × IsOnWay stage × Came finishing start stage now

-- how many repeats may follow a key message: their numbers have 32 bits
abbrev pub repeats_left : Option Sent → ℕ
repeats_left None = 0
repeats_left (Some s) = 4294967295 - s.key.repeat

-- A bound on the pumps that still find something to do: one for each args that wait, and one for each repeat of the key that is held. Args
-- may be a key that goes down, whose repeats begin anew.
abbrev pub pumps_left : List ℕ → History → ℕ
pumps_left displays h = length (inbound h) * 4294967296 + repeats_left (while_held (effects displays h) (last_key (effects displays h)))

-- how many messages of a channel its owner has not taken
abbrev pub unreceived : List ℕ → History → ℕ → ℕ
unreceived displays h c = length (stream (effects displays h) c) - received h c
