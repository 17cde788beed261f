-- When messages reach the owner of a channel, and which windows do not respond.
use Rattle.std.specs.Prelude.{ℕ, ◌+◌, min, Bool, true, false, not, ◌==◌, ◌&&◌, ◌||◌, nat_le, List, [], ◌∷◌, length, take, reverse, filter, slice_get, Option, if◌then◌else◌}
use Rattle.std.specs.List.{list_any}
use Rattle.input_types.specs.declared.message.Message.{Message}
use Rattle.window_snapshot.specs.Mask.{mask_has}
use Rattle.dispatch_calls.specs.declared.call.Call.{Call}
use Rattle.dispatch_calls.specs.declared.call.Call.TheVariants.{Tick, Finish}
use Rattle.dispatch_calls.specs.declared.reply.Reply.{Reply}
use Rattle.dispatch_calls.specs.declared.reply.Reply.TheVariants.{Named, Done}
use Rattle.dispatch_history.specs.History.{History, clock, live, limit_of, finished}
use Rattle.dispatch_history.specs.Effect.{Effect, past_of, stream}

-- how many messages of a channel are published: all that were sent, except that at most 64 may be unfinished
abbrev pub published : List Effect → ℕ → ℕ
published es c = min (length (stream es c)) (length (finished (past_of es) c) + 64)

-- the moment at which message k of a channel was published: the clock at the first step after which it was
abbrev pub delivery : List Effect → ℕ → ℕ → ℕ
delivery [] c k = 0
delivery (x ∷ before) c k = if nat_le k (published before c) then delivery before c k else clock x.past

-- message k of a channel is finished
abbrev pub is_finished : History → ℕ → ℕ → Bool
is_finished h c k = list_any (λ n. n == k) (finished h c)

-- the messages of a channel that are published and not finished, oldest first
abbrev pub unfinished : List Effect → ℕ → List Message
unfinished es c = filter (λ m. not (is_finished (past_of es) c m.seq)) (take (published es c) (reverse (stream es c)))

-- a message is late at a moment if it was delivered at least its channel's limit earlier
abbrev pub is_late : List Effect → ℕ → ℕ → Message → Bool
is_late es c now m = nat_le (delivery es c m.seq + limit_of (past_of es) c) now

-- some published and unfinished message of the channel is late
abbrev pub has_late : List Effect → ℕ → Bool
has_late es c = list_any (is_late es c (clock (past_of es))) (unfinished es c)

-- a tick that reports the channel unresponsive
abbrev pub is_reported_by : Call → Reply → ℕ → Bool
is_reported_by (Tick now) (Named mask) c = mask_has mask c
is_reported_by call reply c = false

-- a successful finish of a message of the channel
abbrev pub is_finish_of : Call → Reply → ℕ → Bool
is_finish_of (Finish now k seq) Done c = c == k
is_finish_of call reply c = false

-- the last step of a history reports the channel unresponsive
abbrev pub reports : History → ℕ → Bool
reports [] c = false
reports (e ∷ h) c = is_reported_by e.0 e.1 c

-- the last step of a history finishes a message of the channel
abbrev pub finishes : History → ℕ → Bool
finishes [] c = false
finishes (e ∷ h) c = is_finish_of e.0 e.1 c

-- a channel is unresponsive if a tick reported it, and no later finish left it without late messages
abbrev pub unresponsive : List Effect → ℕ → Bool
unresponsive [] c = false
unresponsive (x ∷ before) c =
    reports x.past c
    || elim (unresponsive before c) [ false ↦ false | true ↦ elim (finishes x.past c) [ false ↦ true | true ↦ has_late (x ∷ before) c ] ]

-- a channel can take input if it is live and not unresponsive
abbrev pub able : List Effect → ℕ → Bool
able es c = live (past_of es) c && not (unresponsive es c)

-- the oldest published and unfinished message of a channel
abbrev pub oldest : List Effect → ℕ → Option Message
oldest es c = slice_get (unfinished es c) 0
