-- What a client was sent.
use Rattle.std.specs.Prelude.{ℕ, ◌-◌, List, length, map, take}
use Rattle.input_types.specs.declared.message.Message.{Message}
use Rattle.dispatch_history.specs.Effect.{Effect, past_of}
use Rattle.dispatch_history.specs.History.{received}
use Rattle.live_input.specs.declared.client.Seat.{Seat}
use Rattle.live_input.specs.Answers.{for_client}

-- messages, newest first, except the first n of them
abbrev pub since : ℕ → List Message → List Message
since n ms = take (length ms - n) ms

-- What a client was sent since it was opened, newest first, from all messages of its channel: those after what the
-- channel had before, each as the client receives it.
abbrev pub sent_since : Seat → List Message → List Message
sent_since s ms = map (for_client s) (since s.before ms)

-- how many of these it received
abbrev pub taken : Seat → List Effect → ℕ → ℕ
taken s es c = received (past_of es) c - s.before
