-- When channels are due to be reported, by the history and by what is kept.
use Rattle.std.specs.Prelude.{ℕ, ◌+◌, Bool, true, false, List, filter, filter_map, Option, None, option_map, if◌then◌else◌}
use Rattle.dispatcher.specs.InputChannel.State.{ChannelState, oldest_of}
use Rattle.dispatch_calls.specs.declared.counts.Anr.{Anr}
use Rattle.dispatch_calls.specs.declared.reply.Reply.{Reply}
use Rattle.dispatch_calls.specs.declared.reply.Reply.TheVariants.{Named}
use Rattle.window_snapshot.specs.Mask.{mask_has}
use Rattle.dispatch_history.specs.History.{limit_of}
use Rattle.dispatch_history.specs.Effect.{Effect, past_of}
use Rattle.dispatch_history.specs.Delivery.{able, delivery, oldest}
use Rattle.dispatch_history.specs.Due.{Due}
use Rattle.dispatch_history.specs.Effects.{channels}

-- the moment at which a channel is due: its limit after the delivery of its oldest unfinished message, if it is able
abbrev pub due_moment : List Effect → ℕ → Option ℕ
due_moment es c =
    if able es c then option_map (λ m. delivery es c m.seq + limit_of (past_of es) c) (oldest es c) else None

-- the same by what is kept of the channel
abbrev pub due_in : (is_able : Bool) → ChannelState → Option ℕ
due_in is_able s = if is_able then option_map (λ p. p.1 + s.terms.limit) (oldest_of s) else None

-- a pair of moment and channel as a due
abbrev pub due_pair : ℕ × ℕ → Due
due_pair p = record { moment = p.0; channel = p.1 }

-- what is recorded of a channel that is reported at a clock
abbrev pub anr_in : (now channel : ℕ) → ChannelState → Option Anr
anr_in now c s = option_map (λ p. record { clock = now; channel = c; seq = p.0 }) (oldest_of s)

-- what is recorded of the channels 1 to n that are in a mask, in rising order
abbrev pub anrs_in : (now mask : ℕ) → (ℕ → ChannelState) → (n : ℕ) → List Anr
anrs_in now mask kept n = filter_map (λ c. anr_in now c (kept c)) (filter (mask_has mask) (channels n))

-- a reply that reports channels
abbrev pub is_named : Reply → Bool
is_named (Named mask) = true
is_named answer = false
