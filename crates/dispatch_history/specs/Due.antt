-- Which windows a tick reports, and when the next one is due.
use Rattle.std.specs.Prelude.{ℕ, ◌+◌, max, length, nat_le, Bool, false, ◌&&◌, nat_lt, List, [], ◌∷◌, ◌++◌, filter, filter_map, fold, Option, Some, None, if◌then◌else◌}
use Rattle.input_types.specs.declared.message.Message.{Message}
use Rattle.window_snapshot.specs.Mask.{mask_has, mask_with}
use Rattle.dispatch_calls.specs.declared.call.Call.{Call}
use Rattle.dispatch_calls.specs.declared.counts.Counts.{Counts}
use Rattle.dispatch_calls.specs.declared.counts.Anr.{Anr}
use Rattle.dispatch_calls.specs.declared.reply.Reply.{Reply}
use Rattle.dispatch_calls.specs.declared.reply.Reply.TheVariants.{Named}
use Rattle.dispatch_history.specs.History.{clock, opened, limit_of, live, received, finished}
use Rattle.dispatch_history.specs.Effect.{Effect, past_of, stream}
use Rattle.dispatch_history.specs.Delivery.{able, delivery, is_late, oldest, published}
use Rattle.dispatch_history.specs.Effects.{channels}

-- there is a message, and it is late at the moment
abbrev pub is_late_at : List Effect → ℕ → ℕ → Option Message → Bool
is_late_at es c now None = false
is_late_at es c now (Some m) = is_late es c now m

-- the channels that a tick at this moment reports: able ones whose oldest published and unfinished message is late
-- once the clock is advanced
abbrev pub named : List Effect → ℕ → List ℕ
named es now =
    filter (λ c. able es c && is_late_at es c (max now (clock (past_of es))) (oldest es c)) (channels (opened (past_of es)))

-- channels as a mask
abbrev pub mask_of : List ℕ → ℕ
mask_of cs = fold mask_with 0 cs

-- when a channel is due to be reported: its limit after the delivery of its oldest published and unfinished message
pub record Due : Type 0 where
  pub moment : ℕ
  pub channel : ℕ

-- the due of a channel whose oldest message this is
abbrev pub due_at : List Effect → ℕ → Option Message → Option Due
due_at es c None = None
due_at es c (Some m) = Some (record { moment = delivery es c m.seq + limit_of (past_of es) c; channel = c })

-- each channel that is able and is due
abbrev pub dues : List Effect → List Due
dues es = filter_map (λ c. due_at es c (oldest es c)) (filter (able es) (channels (opened (past_of es))))

-- the earlier of two dues; if their moments are equal, the first
abbrev pub sooner_due : Option Due → Due → Option Due
sooner_due None d = Some d
sooner_due (Some best) d = Some (if nat_lt d.moment best.moment then d else best)

-- the first due of all: the earliest moment, and at equal moments the lowest channel
abbrev pub first_due : List Effect → Option Due
first_due es = fold sooner_due None (dues es)

-- the record of each channel that a tick reports, in rising order: the clock at the tick, and its oldest message then
abbrev pub anr_of : List Effect → ℕ → ℕ → Option Message → Option Anr
anr_of es now c None = None
anr_of es now c (Some m) = Some (record { clock = now; channel = c; seq = m.seq })

-- the ANRs of a step with this reply and this clock, by rising channel
abbrev pub anrs_by : Reply → ℕ → List Effect → List Anr
anrs_by (Named mask) now before =
    filter_map (λ c. anr_of before now c (oldest before c)) (filter (mask_has mask) (channels (opened (past_of before))))
anrs_by reply now before = []

-- all ANRs, in the order of the history
abbrev pub anrs : List Effect → List Anr
anrs [] = []
anrs (x ∷ before) = anrs before ++ anrs_at x.past before
  where
    anrs_at : List (Call × Reply) → List Effect → List Anr
    anrs_at [] before = []
    anrs_at (e ∷ h) before = anrs_by e.1 (clock (e ∷ h)) before

-- how far a channel has come, if it was opened
abbrev pub counts : List Effect → ℕ → Option Counts
counts es c =
    let h = past_of es in
    if nat_le 1 c && nat_le c (opened h) then
    Some (record { sent = length (stream es c); received = received h c; finished = length (finished h c); published = published es c; live = live h c })
    else None
