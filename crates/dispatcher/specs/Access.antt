-- What can be read of a dispatcher.
use Rattle.std.specs.Prelude.{◌≡◌, ◌≤◌, ℕ, Bool, true, false, ◌&&◌, nat_le, nat_lt, List, [], ◌∷◌, length, drop, reverse, Option, Some, None, if◌then◌else◌}
use Rattle.input_types.specs.declared.message.Args.{Args}
use Rattle.input_types.specs.declared.message.Message.{Message}
use Rattle.dispatcher.specs.CancelSynthesis.Tracked.{Tracked, pointers_of}
use Rattle.routing_rules.specs.Marks.{held}
use Rattle.routing_rules.specs.Pairs.{has}
use Rattle.routing_rules.specs.Outgoing.{listing}
use Rattle.dispatcher.specs.KeyTables.Held.{KeysAre}
use Rattle.dispatch_calls.specs.declared.reply.Reply.{Reply}
use Rattle.dispatch_calls.specs.declared.reply.Reply.TheVariants.{Got}
use Rattle.dispatch_history.specs.Delivery.{delivery, oldest}
use Rattle.dispatch_history.specs.Effect.{Effect, past_of, stream, last}
use Rattle.dispatch_history.specs.History.{opened}
use Rattle.dispatch_history.specs.KeySent.{repeat_due}
use Rattle.dispatch_history.specs.Queue.{inbound}
use Rattle.dispatch_history.specs.Step.{marks}
use Rattle.dispatcher.specs.DispatchChannels.Table.{channel_of}
use Rattle.dispatcher.specs.Dispatching.{Dispatching}

-- a channel was opened with this number
abbrev pub is_opened : List Effect → ℕ → Bool
is_opened es c = nat_le 1 c && nat_le c (opened (past_of es))

-- how many of the first messages of a channel were released
abbrev pub gone : Dispatching → ℕ → ℕ
gone d c = (channel_of d.channels c).gone

-- how many of the first ANRs were released
abbrev pub anrs_released : Dispatching → ℕ
anrs_released d = d.channels.anrs.gone

-- the messages of a channel that was opened, except those that were released
abbrev pub messages_of : List Effect → Dispatching → ℕ → Option (List Message)
messages_of es d c = if is_opened es c then Some (drop (gone d c) (reverse (stream es c))) else None

-- a channel was opened with this number, and has messages that were not released
abbrev pub has_messages : List Effect → Dispatching → ℕ → Bool
has_messages es d c = is_opened es c && nat_lt (gone d c) (length (stream es c))

-- the message that a reply has
abbrev pub got : Reply → Option Message
got (Got m) = Some m
got answer = None

-- the number and the delivery of the oldest message of a channel that was opened, of those that are published and not finished
abbrev pub oldest_delivery : List Effect → ℕ → Option (ℕ × ℕ)
oldest_delivery es c = paired (oldest es c)
  where
    paired : Option Message → Option (ℕ × ℕ)
    paired None = None
    paired (Some m) = Some (m.seq, delivery es c m.seq)

-- some of these wait
abbrev pub any_waits : List Args → Bool
any_waits [] = false
any_waits (a ∷ later) = true

-- some args wait
abbrev pub is_waiting : List Effect → Bool
is_waiting es = any_waits (inbound (past_of es))

-- when the next repeat is due, if no args wait
abbrev pub next_repeat : List Effect → Option ℕ
next_repeat es = if is_waiting es then None else repeat_due es

-- what is kept of a window are the pointers that it holds, at their last places, and the keys that it holds, each with its last message
pub record HoldsInput (es : List Effect) (w : ℕ) (input : Tracked) : Type 0 where
  pub pointers_are :
      (d : ℕ) → 1 ≤ d → d ≤ 8 → pointers_of input d ≡ listing (has (held (marks es)) w d) (last es d)
  pub keys_are : KeysAre es w input.keys
