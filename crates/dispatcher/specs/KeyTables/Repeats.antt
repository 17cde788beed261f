-- What is kept of the last key message, from which repeats are made.
use Rattle.std.specs.Prelude.{◌≡◌, ℕ, Bool, true, false, List, [], ◌∷◌, Option, Some, None, if◌then◌else◌}
use Rattle.input_types.specs.declared.key.KeyMsg.{KeyMsg}
use Rattle.key_repeat.specs.Due.{Sent}
use Rattle.dispatch_history.specs.Effect.{Effect}
use Rattle.dispatch_history.specs.KeySent.{last_key, while_held}

-- what is kept is the last key message that was sent, while its window holds the key
abbrev pub RepeatIs : List Effect → Option Sent → Type 0
RepeatIs es last = last ≡ while_held es (last_key es)

-- what is kept once a window was sent these key messages at a clock: a down or a repeat is kept, and an up ends what was
-- kept
abbrev pub repeat_after : (now target : ℕ) → List KeyMsg → Option Sent → Option Sent
repeat_after now t [] last = last
repeat_after now t (m ∷ ms) last =
    repeat_after now t ms (if m.key.down then Some (record { channel = t; key = m; clock = now }) else None)

-- what is kept after a step that sent the key target these key messages: nothing if it is no longer live
abbrev pub repeat_next : (live : Bool) → (now target : ℕ) → List KeyMsg → Option Sent → Option Sent
repeat_next false now t ms last = None
repeat_next true now t ms last = repeat_after now t ms last
