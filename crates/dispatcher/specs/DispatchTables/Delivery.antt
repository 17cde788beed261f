-- What is kept of all channels, and how a step changes it.
use Rattle.std.specs.Prelude.{◌≡◌, ℕ, ◌+◌, ◌≤◌, Bool, true, false, List, [], ◌++◌, drop, length, nat_le, Option, None, if◌then◌else◌}
use Rattle.input_types.specs.declared.message.Body.{Body}
use Rattle.window_snapshot.specs.Mask.{mask_has}
use Rattle.key_repeat.specs.declared.delays.Repeats.{Repeats}
use Rattle.dispatch_calls.specs.declared.call.Call.{Call}
use Rattle.dispatch_calls.specs.declared.counts.Anr.{Anr}
use Rattle.dispatch_calls.specs.declared.reply.Reply.{Reply}
use Rattle.dispatch_calls.specs.declared.reply.Reply.TheVariants.{Named}
use Rattle.dispatcher.specs.InputChannel.State.{ChannelState, published_at}
use Rattle.dispatcher.specs.InputChannel.State.{has_late as late_at}
use Rattle.dispatch_history.specs.History.{opened, opened_after, live}
use Rattle.dispatch_history.specs.Effect.{Effect, past_of}
use Rattle.dispatch_history.specs.Delivery.{able}
use Rattle.dispatch_history.specs.Due.{anrs}
use Rattle.dispatcher.specs.DispatchTables.Channel.{Holds, Untouched, part_of, with_part, enqueued_all}
use Rattle.dispatcher.specs.DispatchTables.Masks.{live_mask_after, able_mask_after}
use Rattle.dispatcher.specs.DispatchTables.Dues.{due_in, anrs_in}

-- the records of ticks: how many of the first ANRs were released, and the others
pub record Noted : Type 0 where
  pub gone : ℕ
  pub left : List Anr

-- nothing was recorded
abbrev pub none_noted : Noted
none_noted = record { gone = 0; left = [] }

-- some more ANRs
abbrev pub noted_with : List Anr → Noted → Noted
noted_with more n = record n { left = n.left ++ more }

-- all are released
abbrev pub noted_gone : Noted → Noted
noted_gone n = record { gone = n.gone + length n.left; left = [] }

-- it is what remains of all these ANRs once the first ones were released
pub record NotedIs (all : List Anr) (n : Noted) : Type 0 where
  pub few : n.gone ≤ length all
  pub left_is : n.left ≡ drop n.gone all

-- how many channels were opened, the channels by their numbers, the masks of those that are live and able, and the
-- records of ticks
pub record Delivery : Type 0 where
  pub count : ℕ
  pub channel : ℕ → ChannelState
  pub live : ℕ
  pub able : ℕ
  pub noted : Noted

-- when a channel is due to be reported, by what is kept
abbrev pub due_kept : Delivery → ℕ → Option ℕ
due_kept k c = due_in (mask_has k.able c) (k.channel c)

-- when keys are repeated for a channel, by what is kept; never where no channel has the number
abbrev pub repeats_kept : Delivery → ℕ → Option Repeats
repeats_kept k c = if nat_le 1 c then (k.channel c).terms.repeats else None

-- it stands for the effects of a history
pub record DeliveryIs (es : List Effect) (k : Delivery) : Type 0 where
  pub count_is : k.count ≡ opened (past_of es)
  pub keeps : (c : ℕ) → 1 ≤ c → c ≤ k.count → Holds es c (k.channel c)
  pub live_is : mask_has k.live ≡ live (past_of es)
  pub able_is : mask_has k.able ≡ able es
  pub noted_is : NotedIs (anrs es) k.noted

-- a channel after a step: its part in it, then what it is sent, then everything is published
abbrev pub channel_after : Call → Reply → (outgoing : List Body) → (now channel : ℕ) → ChannelState → ChannelState
channel_after call answer outgoing now c s = published_at now (enqueued_all outgoing now (with_part (part_of call answer c) s))

-- what is recorded after a step
abbrev pub noted_after : Reply → (now : ℕ) → Delivery → Noted
noted_after (Named mask) now k = noted_with (anrs_in now mask k.channel k.count) k.noted
noted_after answer now k = k.noted

-- What is kept goes one step on, in which channels are sent these bodies, at the clock after the step. Some channels
-- change, at least those that are sent something or have a part in the step. A channel that the step opens starts as
-- if it had been there before, without messages.
pub record GoesOn
    (call : Call) (answer : Reply) (es : List Effect) (outgoing : ℕ → List Body) (now : ℕ) (changed : ℕ → Bool)
    (k later : Delivery) : Type 0 where
  pub count_is : later.count ≡ opened_after call answer k.count
  pub changes : (c : ℕ) → changed c ≡ true → 1 ≤ c → c ≤ later.count
      → (s : ChannelState) × Holds es c s × (later.channel c ≡ channel_after call answer (outgoing c) now c s)
  pub stays : (c : ℕ) → changed c ≡ false → 1 ≤ c → c ≤ later.count
      → (later.channel c ≡ k.channel c) × (outgoing c ≡ []) × (part_of call answer c ≡ Untouched)
  pub live_is : later.live ≡ live_mask_after call answer k.live
  pub able_is : later.able ≡ able_mask_after call answer (λ c. late_at now (later.channel c)) k.able
  pub noted_is : later.noted ≡ noted_after answer now k
