-- Proved facts about channels and their clients. Each law is the clause of a function of its own.
use Rattle.std.specs.Prelude.{ℕ, ◌≡◌, ◌≤◌, ◌<◌, false, true, List, [], ◌∷◌, ◌++◌, drop, length, reverse, slice_get, Some, None}
use Rattle.input_types.specs.declared.message.Message.{Message}
use Rattle.input_types.specs.DeviceRule.{device_state, nothing_down}
use Rattle.input_types.specs.StreamRule.{stream_state, unsent}
use Rattle.raw_events.specs.declared.event.RawEvent.{RawEvent}
use Rattle.device_reader.specs.Cooked.{DevicePlan, args_of, number_of}
use Rattle.focus_resolver.specs.Resolver.{is_at}
use Rattle.window_snapshot.specs.Named.{is_named}
use Rattle.dispatch_calls.specs.declared.call.Call.{Call}
use Rattle.dispatch_calls.specs.declared.call.Call.TheVariants.{Receive}
use Rattle.dispatch_calls.specs.declared.reply.Reply.{Reply}
use Rattle.dispatch_history.specs.Effect.{Effect, past_of, stream}
use Rattle.dispatch_history.specs.Delivery.{unfinished}
use Rattle.dispatch_history.specs.Due.{anrs}
use Rattle.dispatch_history.specs.Effects.{step, said_at}
use Rattle.dispatch_history.specs.Focus.{requested}
use Rattle.dispatch_history.specs.History.{History, clock, live, opened, received, snapshot}
use Rattle.dispatch_history.specs.Known.{IsNumbered, NeverFalls, known_state}
use Rattle.dispatch_history.specs.Legal.{answered}
use Rattle.dispatch_history.specs.PointerOf.{AllRise}
use Rattle.dispatch_history.specs.Queue.{accepted}
use Rattle.dispatch_history.specs.Reply.{reply_to}
use Rattle.dispatcher.specs.DispatchTables.Lawful.{Lawful}
use Rattle.dispatcher.specs.Access.{got, messages_of, anrs_released}
use Rattle.live_input.specs.declared.client.Client.{Client}
use Rattle.live_input.specs.Answers.{handed}
use Rattle.live_input.specs.Giving.{IsFed, all_taken, hands_in, notified}
use Rattle.live_input.specs.Seats.{is_held, is_open, seat_of}
use Rattle.live_input.specs.Settling.{due_of, next_due, next_left}
use Rattle.live_input.specs.Standing.{IsDone, LiveIs}
use Rattle.live_input.specs.State.{LiveState}
use Rattle.live_input.specs.Outgoing.{taken, sent_since}

-- A channel whose window is shown neither before a step nor after it is sent nothing at it.
abbrev pub SilenceLaw : Type 0
SilenceLaw =
    (displays : List ℕ) (call : Call) (answer : Reply) (es : List Effect) (c : ℕ)
    → Lawful displays (step displays call answer es)
    → is_named (snapshot (past_of es)) c ≡ false
    → is_named (snapshot ((call, answer) ∷ past_of es)) c ≡ false
    → said_at displays call answer es c ≡ []

-- After all of its messages, the owner of a live channel whose window is not shown knows of nothing that is down, and
-- has no focus.
abbrev pub UnsentLaw : Type 0
UnsentLaw =
    (displays : List ℕ) (es : List Effect) (c : ℕ)
    → Lawful displays es → AllRise (past_of es) → live (past_of es) c ≡ true → is_named (snapshot (past_of es)) c ≡ false
    → stream_state (stream es c) ≡ Some unsent

-- Messages after others that leave nothing known say the same as on their own.
abbrev pub AloneLaw : Type 0
AloneLaw = (newer older : List Message) → stream_state older ≡ Some unsent → stream_state (newer ++ older) ≡ stream_state newer

-- What a client was sent since it was opened is well-formed by itself, from the empty state: it was never sent
-- anything that belongs to an earlier client. While it is open, it knows from that exactly what its window holds.
abbrev pub OwnLaw : Type 0
OwnLaw =
    (displays : List ℕ) (es : List Effect) (s : LiveState) (k : Client)
    → LiveIs displays es s → is_open s.seats k ≡ true
    → stream_state (sent_since (seat_of s.seats k.channel) (stream es k.channel)) ≡ Some (known_state es k.channel)

-- These messages are numbered from 1, their moments never decrease, and everything that its channel had before the
-- client was received before it.
abbrev pub OwnNumbersLaw : Type 0
OwnNumbersLaw =
    (displays : List ℕ) (es : List Effect) (s : LiveState) (k : Client)
    → LiveIs displays es s → is_open s.seats k ≡ true
    → IsNumbered (sent_since (seat_of s.seats k.channel) (stream es k.channel))
    × NeverFalls (clock (past_of es)) (sent_since (seat_of s.seats k.channel) (stream es k.channel))
    × ((seat_of s.seats k.channel).before ≤ received (past_of es) k.channel)

-- It receives these messages in their order.
abbrev pub NextLaw : Type 0
NextLaw =
    (displays : List ℕ) (es : List Effect) (s : LiveState) (k : Client) (m : Message)
    → LiveIs displays es s → is_open s.seats k ≡ true
    → let seat = seat_of s.seats k.channel in handed seat (got (reply_to es (Receive k.channel))) ≡ Some m
    → slice_get (reverse (sent_since seat (stream es k.channel))) (taken seat es k.channel) ≡ Some m

-- An opened channel on which no client is open has no window, and no display's focus was last requested for it. None
-- of its messages is unfinished, and none is kept.
abbrev pub VacantLaw : Type 0
VacantLaw =
    (displays : List ℕ) (es : List Effect) (s : LiveState) (c : ℕ)
    → LiveIs displays es s → 1 ≤ c → c ≤ opened (past_of es) → is_held (seat_of s.seats c) ≡ false
    → (is_named (snapshot (past_of es)) c ≡ false)
    × ((y : ℕ) → y < 4 → is_at (requested (past_of es) y) c ≡ false)
    × (unfinished es c ≡ []) × (messages_of es s.dispatcher c ≡ Some [])

-- No call sends it anything until a client is opened on it.
abbrev pub ClosedLaw : Type 0
ClosedLaw =
    (displays : List ℕ) (call : Call) (es : List Effect) (s t : LiveState) (c : ℕ)
    → LiveIs displays es s → LiveIs displays (answered displays call es) t
    → is_held (seat_of s.seats c) ≡ false → is_held (seat_of t.seats c) ≡ false
    → stream (answered displays call es) c ≡ stream es c

-- Of an opened channel, exactly the messages not yet received are kept, and at most 64 are published and not finished.
abbrev pub KeptLaw : Type 0
KeptLaw =
    (displays : List ℕ) (es : List Effect) (s : LiveState) (c : ℕ)
    → LiveIs displays es s → 1 ≤ c → c ≤ opened (past_of es)
    → (messages_of es s.dispatcher c ≡ Some (drop (received (past_of es) c) (reverse (stream es c))))
    × (length (unfinished es c) ≤ 64)

-- No ANR is kept.
abbrev pub AnrsLaw : Type 0
AnrsLaw =
    (displays : List ℕ) (es : List Effect) (s : LiveState)
    → LiveIs displays es s → drop (anrs_released s.dispatcher) (anrs es) ≡ []

-- After everything due up to a time was done and nothing must be handed in, what is due is later.
abbrev pub LaterLaw : Type 0
LaterLaw =
    (now : ℕ) (es : List Effect) (s : LiveState) (t : ℕ)
    → next_due now es ≡ None → s.pending ≡ [] → due_of es s ≡ Some t → now < t

-- After everything left on a channel was done, all of its messages are received and finished.
abbrev pub DoneLaw : Type 0
DoneLaw =
    (displays : List ℕ) (now : ℕ) (es : List Effect) (s : LiveState) (c : ℕ)
    → LiveIs displays es s → next_left now c es ≡ None → IsDone es c

-- A device on which nothing is down begins with its reader in agreement.
abbrev pub FedFirstLaw : Type 0
FedFirstLaw =
    (es : List Effect) (plan : DevicePlan)
    → device_state (number_of plan) (accepted (past_of es)) ≡ Some nothing_down → IsFed plan [] es

-- While they agree, everything that an event of the device gives is accepted, and then they agree again.
abbrev pub FedLaw : Type 0
FedLaw =
    (displays : List ℕ) (now : ℕ) (es : List Effect) (plan : DevicePlan) (past : List RawEvent) (e : RawEvent)
    → IsFed plan past es
    → (all_taken displays now es (args_of plan past e) ≡ true)
    × IsFed plan (e ∷ past) (notified displays now es (args_of plan past e))

-- A call that hands in no args of the device changes nothing about it.
abbrev pub FedStaysLaw : Type 0
FedStaysLaw =
    (call : Call) (answer : Reply) (h : History) (d : ℕ)
    → hands_in call d ≡ false → device_state d (accepted ((call, answer) ∷ h)) ≡ device_state d (accepted h)
