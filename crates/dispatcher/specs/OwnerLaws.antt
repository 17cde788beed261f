-- Proved facts about the calls of the owners of channels.
use Rattle.std.specs.Prelude.{◌≡◌, ℕ, List}
use Rattle.input_types.specs.declared.message.Message.{Message}
use Rattle.dispatcher.specs.InputChannel.State.{received_one}
use Rattle.dispatch_calls.specs.declared.call.Call.TheVariants.{Receive, Finish}
use Rattle.dispatch_calls.specs.declared.reply.Reply.TheVariants.{Done, Got}
use Rattle.dispatch_history.specs.Effect.{Effect}
use Rattle.dispatch_history.specs.Effects.{step}
use Rattle.dispatch_history.specs.Reply.{reply_to}
use Rattle.dispatcher.specs.DispatchChannels.Table.{Table, channel_of, with_channel}
use Rattle.dispatcher.specs.DispatchChannels.Changes.{finished_in}
use Rattle.dispatcher.specs.Knows.{Kept, KeptStandsFor}
use Rattle.dispatcher.specs.Staying.{StaysBut, delivery_of}

-- The owner of a channel receives its next message.
abbrev pub GotLaw : Type 0
GotLaw =
    (displays : List ℕ) (c : ℕ) (m : Message) (es : List Effect) (k later : Kept) (t u : Table)
    → KeptStandsFor displays es k
    → Got m ≡ reply_to es (Receive c)
    → StaysBut (Receive c) (Got m) k later
    → k.delivery ≡ delivery_of t
    → later.delivery ≡ delivery_of u
    → u ≡ with_channel c (received_one (channel_of t c)) t
    → KeptStandsFor displays (step displays (Receive c) (Got m) es) later

-- The owner of a channel finishes a message, at the clock after the step.
abbrev pub DoneLaw : Type 0
DoneLaw =
    (displays : List ℕ) (now c seq : ℕ) (es : List Effect) (k later : Kept) (t u : Table)
    → KeptStandsFor displays es k
    → Done ≡ reply_to es (Finish now c seq)
    → StaysBut (Finish now c seq) Done k later
    → k.delivery ≡ delivery_of t
    → later.delivery ≡ delivery_of u
    → u ≡ finished_in c seq later.queue.clock t
    → KeptStandsFor displays (step displays (Finish now c seq) Done es) later
