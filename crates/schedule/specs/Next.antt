-- The next candidate of the ordered run, found without looking at all messages.
use Rattle.std.specs.Prelude.{ℕ, ◌+◌, ◌++◌, ◌&&◌, ◌==◌, length, List, [], ◌∷◌, Option, None, Some, option_map, if◌then◌else◌, nat_le, slice_get}
use Rattle.dispatch_calls.specs.declared.call.Call.TheVariants.{Finish}
use Rattle.dispatch_history.specs.History.{live}
use Rattle.dispatch_history.specs.Queue.{inbound}
use Rattle.dispatch_history.specs.Effect.{Effect, past_of}
use Rattle.dispatch_history.specs.Delivery.{delivery, oldest}
use Rattle.dispatch_history.specs.KeySent.{repeat_due}
use Rattle.dispatch_history.specs.Due.{first_due}
use Rattle.dispatch_history.specs.Plan.{Plan, ChannelOf}
use Rattle.schedule.specs.declared.plan.Channel.{Channel}
use Rattle.schedule.specs.Planned.{channel_of}
use Rattle.dispatch_history.specs.Ordered.{Candidate, sooner_of, all_finishes, due_tick, due_repeat, next_step, scripted}

-- the sooner of the soonest so far and an optional candidate
abbrev pub sooner_with : Option Candidate → Option Candidate → Option Candidate
sooner_with best None = best
sooner_with best (Some c) = sooner_of best c

-- the finish of a message, given by its number and its delivery, so long after the delivery
abbrev pub finish_at : ℕ → ℕ → ℕ × ℕ → Candidate
finish_at c after p = record { moment = p.1 + after; calls = Finish (p.1 + after) c p.0 ∷ [] }

-- the number and the delivery of a channel's oldest message that is published and not finished
abbrev pub oldest_pair : List Effect → ℕ → Option (ℕ × ℕ)
oldest_pair es c = option_map {U = ℕ × ℕ} (λ m. (m.seq, delivery es c m.seq)) (oldest es c)

-- the next finish of a channel: that of its oldest message, if it is live and finishes messages
abbrev pub next_finish : List Effect → ℕ → ChannelOf → Option Candidate
next_finish es c p = if live (past_of es) c && p.finishes then option_map (finish_at c p.finish_after) (oldest_pair es c) else None

-- the next finish of a channel that may be there
abbrev pub finish_of : List Effect → ℕ → Option Channel → Option Candidate
finish_of es c None = None
finish_of es c (Some p) = next_finish es c (channel_of p)

-- everything that may be done next except the next args, in the order that decides at equal moments
abbrev pub fore : Plan → List Effect → List Candidate
fore plan es =
    all_finishes (past_of es) 1 plan.channels ++ due_tick (first_due es) ++ due_repeat (length (inbound (past_of es)) == 0) (repeat_due es)
    ++ next_step (slice_get plan.steps (scripted (past_of es)))

-- a candidate that is due at or before a time
abbrev pub up_to : ℕ → Option Candidate → Option Candidate
up_to t None = None
up_to t (Some c) = if nat_le c.moment t then Some c else None
