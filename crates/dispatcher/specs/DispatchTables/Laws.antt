-- Proved facts about what is kept. Each law is the clause of a function of its own.
use Rattle.std.specs.Prelude.{◌≡◌, ℕ, ◌^◌, ◌<◌, ◌≤◌, max, Bool, false, true, not, ◌&&◌, nat_le, List, [], ◌++◌, filter, length, reverse, Option, Some, None, option_map, if◌then◌else◌}
use Rattle.input_types.specs.declared.message.Body.{Body}
use Rattle.window_snapshot.specs.Mask.{mask_has}
use Rattle.dispatcher.specs.AnrTracker.Due.{IsFirst}
use Rattle.dispatch_calls.specs.declared.call.Call.{Call}
use Rattle.dispatch_calls.specs.declared.counts.Anr.{Anr}
use Rattle.dispatch_calls.specs.declared.reply.Reply.{Reply}
use Rattle.dispatch_calls.specs.declared.reply.Reply.TheVariants.{Done, Gone, Named, UnknownSeq}
use Rattle.dispatcher.specs.InputChannel.Order.{NoneAfter}
use Rattle.dispatcher.specs.InputChannel.State.{ChannelState, IsChannel, sent, published_at, next_of, may_finish, oldest_of, release_of, all_released, with_spare, opened_with}
use Rattle.dispatcher.specs.InputChannel.State.{has_late as late_at}
use Rattle.dispatch_history.specs.History.{History, clock, live, opened}
use Rattle.dispatch_history.specs.Effect.{Effect, past_of, stream}
use Rattle.dispatch_history.specs.Effects.{effects, step, said_at, channels}
use Rattle.dispatch_history.specs.Delivery.{able, delivery, has_late, oldest}
use Rattle.dispatch_history.specs.Due.{counts, first_due, mask_of, named, anrs}
use Rattle.dispatch_history.specs.Legal.{Legal}
use Rattle.dispatch_history.specs.Reply.{reply_to, receive_reply, finish_reply, got_reply, is_due}
use Rattle.dispatcher.specs.DispatchTables.Lawful.{Lawful}
use Rattle.dispatcher.specs.DispatchTables.Channel.{Holds, Keeps, part_of, Untouched, with_part, enqueued_all, NumberedFrom, counts_of}
use Rattle.dispatcher.specs.DispatchTables.Masks.{able_after, live_mask_after, able_mask_after}
use Rattle.dispatcher.specs.DispatchTables.Delivery.{Delivery, DeliveryIs, GoesOn, Noted, NotedIs, none_noted, noted_gone, due_kept}
use Rattle.dispatcher.specs.DispatchTables.Silent.{is_silent, is_no_op}
use Rattle.dispatcher.specs.DispatchTables.Dues.{due_moment, due_in, due_pair, anrs_in, is_named}
use Rattle.dispatch_history.specs.History.{no_terms}

-- The effects of a legal history are lawful, and so is the empty list.
abbrev pub LawfulEffects : Type 0
LawfulEffects = (displays : List ℕ) (h : History) → Legal displays h → Lawful displays (effects displays h)

-- A step with the required reply leaves effects lawful.
abbrev pub LawfulStep : Type 0
LawfulStep =
    (displays : List ℕ) (call : Call) (answer : Reply) (es : List Effect)
    → Lawful displays es → answer ≡ reply_to es call → Lawful displays (step displays call answer es)

-- The last step of lawful effects has the required reply, and those before it are lawful.
abbrev pub LawfulLast : Type 0
LawfulLast =
    (displays : List ℕ) (call : Call) (answer : Reply) (es : List Effect)
    → Lawful displays (step displays call answer es) → (answer ≡ reply_to es call) × Lawful displays es

-- A channel that is kept before a step is kept after it, once it is opened, received from or finished as the step
-- says, everything that it is sent is enqueued, and it is published at the clock after the step.
abbrev pub KeptStep : Type 0
KeptStep =
    (displays : List ℕ) (call : Call) (answer : Reply) (es : List Effect) (c : ℕ) (s : ChannelState)
    → Lawful displays (step displays call answer es)
    → Holds es c s
    → let now = clock (past_of (step displays call answer es)) in
    Holds (step displays call answer es) c
    (published_at now (enqueued_all (said_at displays call answer es c) now (with_part (part_of call answer c) s)))

-- Before that publishing, none of its messages was delivered after that clock.
abbrev pub KeptReady : Type 0
KeptReady =
    (displays : List ℕ) (call : Call) (answer : Reply) (es : List Effect) (c : ℕ) (s : ChannelState)
    (bodies : List Body)
    → Lawful displays (step displays call answer es)
    → Holds es c s
    → let now = clock (past_of (step displays call answer es)) in
    NoneAfter now (enqueued_all bodies now (with_part (part_of call answer c) s)).unfinished

-- A channel that was never opened is kept as one without messages and without terms.
abbrev pub KeptUnopened : Type 0
KeptUnopened =
    (displays : List ℕ) (es : List Effect) (c : ℕ)
    → Lawful displays es → opened (past_of es) < c → Holds es c (opened_with no_terms)

-- A channel that is sent nothing and has no part in a step is kept as it was.
abbrev pub KeptQuiet : Type 0
KeptQuiet =
    (displays : List ℕ) (call : Call) (answer : Reply) (es : List Effect) (c : ℕ) (s : ChannelState)
    → Lawful displays (step displays call answer es)
    → Holds es c s
    → said_at displays call answer es c ≡ []
    → part_of call answer c ≡ Untouched
    → Holds (step displays call answer es) c s

-- A channel that is not live after a step is sent nothing, and has no part in it.
abbrev pub NotLiveLaw : Type 0
NotLiveLaw =
    (displays : List ℕ) (call : Call) (answer : Reply) (es : List Effect) (c : ℕ)
    → Lawful displays (step displays call answer es)
    → live (past_of (step displays call answer es)) c ≡ false
    → (said_at displays call answer es c ≡ []) × (part_of call answer c ≡ Untouched)

-- A channel is still kept once the received messages are released, if it has more room, and, if it is not live, once
-- all its messages are released.
abbrev pub KeptLess : Type 0
KeptLess =
    (displays : List ℕ) (es : List Effect) (c : ℕ) (s : ChannelState)
    → Lawful displays es
    → Keeps es c s
    → Keeps es c (release_of s)
    × ((n : ℕ) → Keeps es c (with_spare n s))
    × (live (past_of es) c ≡ false → Keeps es c (all_released s))

-- What is kept is a channel with as many messages as its stream. Everything that can be is published, so that
-- publishing again changes nothing. No message was delivered after the clock.
abbrev pub KeptFacts : Type 0
KeptFacts =
    (displays : List ℕ) (es : List Effect) (c : ℕ) (s : ChannelState)
    → Lawful displays es
    → Holds es c s
    → IsChannel s
    × (sent s ≡ length (stream es c))
    × ((now : ℕ) → published_at now s ≡ s)
    × ((now : ℕ) → clock (past_of es) ≤ now → NoneAfter now s.unfinished)

-- The messages of a stream are numbered from 1, in order.
abbrev pub NumberedLaw : Type 0
NumberedLaw =
    (displays : List ℕ) (es : List Effect) (c : ℕ) → Lawful displays es → NumberedFrom 0 (reverse (stream es c))

-- The owner of a live channel receives the next message of what is kept, if there is one.
abbrev pub ReceiveLaw : Type 0
ReceiveLaw =
    (displays : List ℕ) (es : List Effect) (c : ℕ) (s : ChannelState)
    → Lawful displays es → Keeps es c s
    → receive_reply es c ≡ (if not (live (past_of es) c) then Gone else got_reply (next_of s))

-- A message of a live channel can be finished exactly if what is kept says so.
abbrev pub FinishLaw : Type 0
FinishLaw =
    (displays : List ℕ) (es : List Effect) (c seq : ℕ) (s : ChannelState)
    → Lawful displays es
    → Holds es c s
    → finish_reply es c seq
    ≡ (if not (live (past_of es) c) then Gone else if may_finish seq s then Done else UnknownSeq)

-- The oldest unfinished message of what is kept is that of the history, with its delivery.
abbrev pub OldestLaw : Type 0
OldestLaw =
    (es : List Effect) (c : ℕ) (s : ChannelState)
    → Holds es c s → oldest_of s ≡ option_map (λ m. (m.seq, delivery es c m.seq)) (oldest es c)

-- At the clock of a history, some message is late by what is kept exactly if one is by the history.
abbrev pub LateLaw : Type 0
LateLaw = (es : List Effect) (c : ℕ) (s : ChannelState) → Holds es c s → late_at (clock (past_of es)) s ≡ has_late es c

-- The counts of a channel that was opened are those of what is kept.
abbrev pub CountsLaw : Type 0
CountsLaw =
    (displays : List ℕ) (es : List Effect) (c : ℕ) (s : ChannelState)
    → Lawful displays es
    → Holds es c s
    → counts es c
    ≡ (if nat_le 1 c && nat_le c (opened (past_of es)) then Some (counts_of (live (past_of es) c) s) else None)

-- At most 64 channels are opened.
abbrev pub OpenedFew : Type 0
OpenedFew = (displays : List ℕ) (es : List Effect) → Lawful displays es → opened (past_of es) ≤ 64

-- Which channels are able after a step.
abbrev pub AbleLaw : Type 0
AbleLaw =
    (displays : List ℕ) (call : Call) (answer : Reply) (es : List Effect) (c : ℕ)
    → Lawful displays (step displays call answer es)
    → able (step displays call answer es) c
    ≡ able_after call answer (has_late (step displays call answer es) c) c (able es c)

-- The mask of the live channels after a step.
abbrev pub LiveMaskLaw : Type 0
LiveMaskLaw =
    (displays : List ℕ) (call : Call) (answer : Reply) (es : List Effect) (mask : ℕ)
    → Lawful displays (step displays call answer es)
    → mask_has mask ≡ live (past_of es)
    → mask_has (live_mask_after call answer mask) ≡ live (past_of (step displays call answer es))

-- The mask of the channels that are able after a step.
abbrev pub AbleMaskLaw : Type 0
AbleMaskLaw =
    (displays : List ℕ) (call : Call) (answer : Reply) (es : List Effect) (mask : ℕ)
    → Lawful displays (step displays call answer es)
    → mask_has mask ≡ able es
    → mask_has (able_mask_after call answer (has_late (step displays call answer es)) mask)
    ≡ able (step displays call answer es)

-- When a channel is due, by what is kept of it.
abbrev pub DueLaw : Type 0
DueLaw = (es : List Effect) (c : ℕ) (s : ChannelState) → Holds es c s → due_moment es c ≡ due_in (able es c) s

-- A channel that is sent nothing, has no part in a step, and is able after it as before, is due as before.
abbrev pub QuietDueLaw : Type 0
QuietDueLaw =
    (displays : List ℕ) (call : Call) (answer : Reply) (es : List Effect) (c : ℕ)
    → Lawful displays (step displays call answer es)
    → said_at displays call answer es c ≡ []
    → part_of call answer c ≡ Untouched
    → able (step displays call answer es) c ≡ able es c
    → due_moment (step displays call answer es) c ≡ due_moment es c

-- No channel but those that are live is due.
abbrev pub NotLiveDueLaw : Type 0
NotLiveDueLaw = (es : List Effect) (c : ℕ) → live (past_of es) c ≡ false → due_moment es c ≡ None

-- A table of dues after a step. It is rewritten for some channels, among them all that are sent something, have a
-- part in the step, or change whether they are able.
abbrev pub DuesLaw : Type 0
DuesLaw =
    (displays : List ℕ) (call : Call) (answer : Reply) (es : List Effect) (changed : ℕ → Bool)
    (before later : ℕ → Option ℕ) (kept : ℕ → ChannelState)
    → Lawful displays (step displays call answer es)
    → before ≡ due_moment es
    → ((c : ℕ)
    → changed c ≡ false
    → (said_at displays call answer es c ≡ [])
    × (part_of call answer c ≡ Untouched)
    × (able (step displays call answer es) c ≡ able es c))
    → ((c : ℕ) → changed c ≡ true → Holds (step displays call answer es) c (kept c))
    → ((c : ℕ) → later c ≡ (if changed c then due_in (able (step displays call answer es) c) (kept c) else before c))
    → later ≡ due_moment (step displays call answer es)

-- What comes first among the channels that are due is the first due of the history.
abbrev pub FirstDueLaw : Type 0
FirstDueLaw =
    (displays : List ℕ) (es : List Effect) (first : Option (ℕ × ℕ))
    → Lawful displays es
    → IsFirst (due_moment es) first
    → first_due es ≡ option_map due_pair first

-- A tick reports the channels that are due at its clock, and its reply is exactly the mask of these.
abbrev pub NamedLaw : Type 0
NamedLaw =
    (displays : List ℕ) (es : List Effect) (now : ℕ)
    → Lawful displays es
    → let at = max now (clock (past_of es)) in
    (named es now ≡ filter (λ c. is_due (due_moment es c) at) (channels (opened (past_of es))))
    × ((c : ℕ) → mask_has (mask_of (named es now)) c ≡ is_due (due_moment es c) at)
    × ((mask : ℕ)
    → mask < 2 ^ 64
    → ((c : ℕ) → mask_has mask c ≡ is_due (due_moment es c) at)
    → mask ≡ mask_of (named es now))

-- A step that reports channels records its clock and the oldest unfinished message of each.
abbrev pub AnrsLaw : Type 0
AnrsLaw =
    (displays : List ℕ) (call : Call) (mask : ℕ) (es : List Effect) (kept : ℕ → ChannelState)
    → ((c : ℕ) → 1 ≤ c → c ≤ opened (past_of es) → Holds es c (kept c))
    → let now = clock (past_of (step displays call (Named mask) es)) in
    anrs (step displays call (Named mask) es) ≡ anrs es ++ anrs_in now mask kept (opened (past_of es))

-- A step whose reply has no mask records nothing.
abbrev pub AnrsKeptLaw : Type 0
AnrsKeptLaw =
    (displays : List ℕ) (call : Call) (answer : Reply) (es : List Effect)
    → is_named answer ≡ false
    → anrs (step displays call answer es) ≡ anrs es

-- The remaining records may be released.
abbrev pub AnrsGoLaw : Type 0
AnrsGoLaw =
    (all : List Anr) (n : Noted) → NotedIs all n → NotedIs all (noted_gone n) × ((noted_gone n).gone ≡ length all)

-- These steps send nothing.
abbrev pub SilentCalls : Type 0
SilentCalls =
    (displays : List ℕ) (call : Call) (answer : Reply) (es : List Effect) (c : ℕ)
    → is_silent call answer c ≡ true → said_at displays call answer es c ≡ []

-- Before any call, nothing is kept.
abbrev pub DeliveryStart : Type 0
DeliveryStart =
    (channel : ℕ → ChannelState)
    → DeliveryIs [] (record { count = 0; channel = channel; live = 0; able = 0; noted = none_noted })

-- What is kept of all channels goes one step on with any step.
abbrev pub DeliveryLaw : Type 0
DeliveryLaw =
    (displays : List ℕ) (call : Call) (answer : Reply) (es : List Effect) (changed : ℕ → Bool) (k later : Delivery)
    → Lawful displays (step displays call answer es)
    → DeliveryIs es k
    → let now = clock (past_of (step displays call answer es)) in
    GoesOn call answer es (said_at displays call answer es) now changed k later
    → DeliveryIs (step displays call answer es) later

-- The channels are due as by what is kept.
abbrev pub DeliveryDue : Type 0
DeliveryDue =
    (displays : List ℕ) (es : List Effect) (k : Delivery)
    → Lawful displays es → DeliveryIs es k → due_kept k ≡ due_moment es

-- Steps that leave all channels as they are.
abbrev pub DeliveryNoOp : Type 0
DeliveryNoOp =
    (displays : List ℕ) (call : Call) (answer : Reply) (es : List Effect) (k : Delivery)
    → Lawful displays (step displays call answer es)
    → is_no_op call answer ≡ true
    → DeliveryIs es k
    → DeliveryIs (step displays call answer es) k
