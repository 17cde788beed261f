-- Proved facts about a channel that do not depend on what may be released.
use Rattle.std.specs.Prelude.{◌≡◌, ℕ, true, List, nat_lt}
use Rattle.dispatch_calls.specs.declared.call.Call.{Call}
use Rattle.dispatch_calls.specs.declared.reply.Reply.{Reply}
use Rattle.dispatcher.specs.InputChannel.State.{ChannelState, release_of, each_released, all_released, with_spare}
use Rattle.dispatch_history.specs.Effect.{Effect, past_of}
use Rattle.dispatch_history.specs.Effects.{step}
use Rattle.dispatch_history.specs.History.{live}
use Rattle.dispatch_history.specs.Reply.{receive_reply}
use Rattle.dispatcher.specs.DispatchTables.Lawful.{Lawful}
use Rattle.dispatcher.specs.DispatchTables.Channel.{MayGo, Holds, Hands}

-- A channel is still held once any of its messages are released, and if it has more room.
abbrev pub HeldLess : Type 0
HeldLess =
    (displays : List ℕ) (es : List Effect) (c : ℕ) (s : ChannelState)
    → Lawful displays es
    → Holds es c s
    → Holds es c (release_of s)
    × ((n : ℕ) → Holds es c (with_spare n s))
    × Holds es c (each_released s)
    × Holds es c (all_released s)

-- What may be released before a step may be released after it.
abbrev pub MayGoLaw : Type 0
MayGoLaw =
    (displays : List ℕ) (call : Call) (answer : Reply) (es : List Effect) (c gone : ℕ)
    → Lawful displays (step displays call answer es) → MayGo es c gone → MayGo (step displays call answer es) c gone

-- The owner of a live channel receives a message exactly if more are published than it received.
abbrev pub PassLaw : Type 0
PassLaw =
    (displays : List ℕ) (es : List Effect) (c : ℕ) (s : ChannelState)
    → Lawful displays es → Holds es c s → live (past_of es) c ≡ true
    → Hands (nat_lt s.received s.published) (receive_reply es c)
