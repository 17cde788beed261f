-- What windows are sent for keys, and when a held key is repeated.
use Rattle.std.specs.Prelude.{ℕ, Bool, false, ◌==◌, List, [], ◌∷◌, map, filter, Option, Some, None, if◌then◌else◌}
use Rattle.std.specs.List.{list_any}
use Rattle.input_types.specs.declared.key.KeyArgs.{KeyArgs}
use Rattle.input_types.specs.declared.key.KeyMsg.{KeyMsg}
use Rattle.input_types.specs.declared.message.Args.{Args}
use Rattle.input_types.specs.declared.message.Args.TheVariants.{Key as KeyOfDevice}
use Rattle.input_types.specs.declared.message.Body.{Body}
use Rattle.input_types.specs.declared.message.Body.TheVariants.{Key}
use Rattle.dispatch_calls.specs.declared.call.Call.{Call}
use Rattle.dispatch_calls.specs.declared.call.Call.TheVariants.{Pump}
use Rattle.dispatch_calls.specs.declared.reply.Reply.{Reply}
use Rattle.dispatch_calls.specs.declared.reply.Reply.TheVariants.{Repeated}
use Rattle.key_repeat.specs.Due.{Sent, due_by, repeated}
use Rattle.dispatch_history.specs.History.{History, clock, repeats_of}
use Rattle.dispatch_history.specs.Effect.{Effect, Outgoing, past_of}
use Rattle.dispatch_history.specs.Keys.{same_key, ends, keys}

-- a key goes down or up as its device reports
abbrev pub key_as_is : KeyArgs → KeyMsg
key_as_is k = record { key = k; flags = 0; repeat = 0 }

-- a key that was down is taken away: an up with FLAG_CANCELED
abbrev pub key_cancelled : KeyArgs → KeyMsg
key_cancelled k =
    let up : KeyArgs = record { device = k.device; scan = k.scan; code = k.code; meta = k.meta; down = false } in
    record { key = up; flags = 0x20; repeat = 0 }

-- What a window is sent for keys at a step, from the keys that it held before. A key goes down, if the window gets
-- keys. A key that it holds goes up. Keys that it loses otherwise are cancelled.
abbrev pub keys_sent : Option Args → (gets loses : Bool) → List KeyArgs → List KeyMsg
keys_sent (Some (KeyOfDevice k)) gets loses held =
    if k.down then (if gets then key_as_is k ∷ [] else []) else (if list_any (same_key k) held then key_as_is k ∷ [] else [])
keys_sent args gets loses held = map key_cancelled (if loses then held else filter (ends args) held)

-- the last key message among those that a step sent, or else the one before
abbrev pub key_in : ℕ → List Outgoing → Option Sent → Option Sent
key_in now [] before = before
key_in now (t ∷ ts) before = key_in now ts (key_or now t.channel t.body before)
  where
    key_or : ℕ → ℕ → Body → Option Sent → Option Sent
    key_or now w (Key m) before = Some (record { channel = w; key = m; clock = now })
    key_or now w body before = before

-- the last key message that was sent to any window
abbrev pub last_key : List Effect → Option Sent
last_key [] = None
last_key (x ∷ before) = key_in (clock x.past) x.outgoing (last_key before)

-- a key message whose window still holds the key
abbrev pub while_held : List Effect → Option Sent → Option Sent
while_held es None = None
while_held es (Some s) = if list_any (same_key s.key.key) (keys es s.channel) then Some s else None

-- the moment at which the last key message must be repeated, if ever: it is a down, its window still holds the key, and
-- keys are repeated for its channel
abbrev pub repeat_due : List Effect → Option ℕ
repeat_due es = due_by (repeats_of (past_of es)) (while_held es (last_key es))

-- a pump that repeats a key sends its window the same down with the next repeat number
abbrev pub repeat_sent : Call → Reply → Option Sent → ℕ → List KeyMsg
repeat_sent (Pump now) Repeated (Some s) w = if w == s.channel then repeated s.key ∷ [] else []
repeat_sent call reply last w = []

-- the repeats that the last step of a history sends to a window
abbrev pub repeat_by : History → Option Sent → ℕ → List KeyMsg
repeat_by [] last w = []
repeat_by (e ∷ h) last w = repeat_sent e.0 e.1 last w
