-- When a key is due to be repeated, from the last key message.
use Rattle.std.specs.Prelude.{ℕ, ◌+◌, ◌&&◌, nat_eq, nat_lt, Bool, Option, Some, None, if◌then◌else◌}
use Rattle.input_types.specs.declared.key.KeyMsg.{KeyMsg}
use Rattle.key_repeat.specs.declared.delays.Repeats.{Repeats}

-- the last key message: the channel that was sent, what it was sent, and the clock then
pub record Sent : Type 0 where
  pub channel : ℕ
  pub key : KeyMsg
  pub clock : ℕ

-- Android's delays in microseconds: half a second, and then a twentieth
abbrev pub android_delays : Repeats
android_delays = record { first = 500000; next = 50000 }

-- how long after a down its next repeat is due: the first repeat has a delay of its own
abbrev pub delay_after : Repeats → ℕ → ℕ
delay_after delays repeat = if nat_eq repeat 0 then delays.first else delays.next

-- a down is repeated, unless its repeat number is the greatest of 32 bits
abbrev pub is_repeated : KeyMsg → Bool
is_repeated m = m.key.down && nat_lt m.repeat 4294967295

-- when a repeat of a message is due: never if its window gets no repeats, or if the message is not repeated
abbrev pub due_after : Option Repeats → Sent → Option ℕ
due_after None s = None
due_after (Some delays) s = if is_repeated s.key then Some (s.clock + delay_after delays s.key.repeat) else None

-- when a repeat is due after the last key message, if there was one
abbrev pub due_of : Option Repeats → Option Sent → Option ℕ
due_of delays None = None
due_of delays (Some s) = due_after delays s

-- when a repeat is due after the last key message, if there was one, by the delays of each channel
abbrev pub due_by : (ℕ → Option Repeats) → Option Sent → Option ℕ
due_by delays None = None
due_by delays (Some s) = due_after (delays s.channel) s

-- the repeat of a message: the same down, its number one higher
abbrev pub repeated : KeyMsg → KeyMsg
repeated m = record { key = m.key; flags = m.flags; repeat = m.repeat + 1 }

-- what is sent when the repeat is due: the channel, and the repeat
abbrev pub next_of : Option Sent → Option (ℕ × KeyMsg)
next_of None = None
next_of (Some s) = if is_repeated s.key then Some (s.channel, repeated s.key) else None
