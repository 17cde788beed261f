-- Proved facts about histories. Each law is the clause of a function of its own.
use Rattle.std.specs.Prelude.{ℕ, ◌==◌, filter, Some, ◌≡◌, ◌≤◌, ◌↔◌, IsTrue, is_some, reverse, ◌++◌, true, false, not, ◌&&◌, ◌||◌, List, ◌∷◌, None}
use Rattle.std.specs.List.{list_any}
use Rattle.input_types.specs.Displays.{device_display}
use Rattle.window_snapshot.specs.Named.{is_shown_on}
use Rattle.dispatch_calls.specs.declared.call.Call.{Call}
use Rattle.dispatch_calls.specs.declared.call.Call.TheVariants.{Receive, Finish, Pilfer, Remove}
use Rattle.dispatch_calls.specs.declared.reply.Reply.{Reply}
use Rattle.dispatch_calls.specs.declared.reply.Reply.TheVariants.{Done, Gone}
use Rattle.input_types.specs.StreamRule.{stream_state, is_well_formed}
use Rattle.input_types.specs.DeviceRule.{device_state}
use Rattle.dispatch_history.specs.History.{History, clock, live, opened, snapshot, terms_of}
use Rattle.dispatch_history.specs.Queue.{accepted, inbound}
use Rattle.dispatch_history.specs.PointerOf.{PointerOf, IsDown, AllRise}
use Rattle.dispatch_history.specs.Effect.{Effect, past_of, stream, dispatched, sent_on, sent_down, sent_focus, down_ids, is_key_down}
use Rattle.dispatch_history.specs.Effects.{effects, said_at}
use Rattle.dispatch_history.specs.Delivery.{able, unresponsive, reports, finishes, has_late}
use Rattle.dispatch_history.specs.Step.{scene}
use Rattle.routing_rules.specs.Fits.{Fits}
use Rattle.routing_rules.specs.Outgoing.{devices}
use Rattle.dispatch_history.specs.Focus.{has_focus}
use Rattle.input_types.specs.declared.key.KeyArgs.{KeyArgs}
use Rattle.key_repeat.specs.Due.{Sent}
use Rattle.dispatch_history.specs.Keys.{keys}
use Rattle.dispatch_history.specs.KeySent.{last_key}
use Rattle.dispatch_history.specs.KeyPlaces.{HoldsKey}
use Rattle.dispatch_history.specs.Known.{sent_repeat, last_message, held_key, AllDiffer, next_repeat, newest_key, known_state, IsNumbered, NeverFalls, sent_pointer}
use Rattle.dispatch_history.specs.Legal.{Legal, reply, calls_of, run, replay}
use Rattle.dispatch_history.specs.Plan.{Plan}
use Rattle.dispatch_history.specs.Ordered.{Ordered, ordered, chosen}

-- The last reply of a legal history is the one that the history before it requires, and that history is legal.
abbrev pub LegalLast : Type 0
LegalLast = (displays : List ℕ) (call : Call) (answer : Reply) (h : History) → Legal displays ((call, answer) ∷ h) → (answer ≡ reply displays h call) × Legal displays h

-- One more call with the required reply leaves a history legal.
abbrev pub LegalMore : Type 0
LegalMore = (displays : List ℕ) (call : Call) (h : History) → Legal displays h → Legal displays ((call, reply displays h call) ∷ h)

-- Two legal histories of the same calls are equal.
abbrev pub LegalUnique : Type 0
LegalUnique = (displays : List ℕ) (h k : History) → Legal displays h → Legal displays k → calls_of h ≡ calls_of k → h ≡ k

-- The replay of calls is a legal history of these calls, and its effects are those of their run.
abbrev pub ReplayLaw : Type 0
ReplayLaw = (displays : List ℕ) (calls : List Call) → Legal displays (replay displays calls) × (calls_of (replay displays calls) ≡ calls) × (effects displays (replay displays calls) ≡ run displays calls)

-- A legal history is the replay of its calls.
abbrev pub LegalReplay : Type 0
LegalReplay = (displays : List ℕ) (h : History) → Legal displays h → replay displays (calls_of h) ≡ h

-- The effects of a history are of that history.
abbrev pub EffectsLaw : Type 0
EffectsLaw = (displays : List ℕ) (h : History) → past_of (effects displays h) ≡ h

-- After a step a channel is unresponsive if the step is a tick that reports it, or if it was unresponsive before and
-- the step is not a finish of a message of it after which none is late.
abbrev pub UnresponsiveStep : Type 0
UnresponsiveStep =
    (x : Effect) (before : List Effect) (c : ℕ)
    → unresponsive (x ∷ before) c
    ≡ (reports x.past c || unresponsive before c && not (finishes x.past c && not (has_late (x ∷ before) c)))

-- A channel that was able stays able unless the step reports or removes it. A channel that is able after a step that
-- neither opens it nor finishes a message of it was able before.
abbrev pub AbleStep : Type 0
AbleStep =
    (x : Effect) (before : List Effect) (c : ℕ)
    → (unresponsive before c ≡ false → able (x ∷ before) c ≡ (live x.past c && not (reports x.past c)))
    × (finishes x.past c ≡ false → able (x ∷ before) c ≡ (live x.past c && not (reports x.past c || unresponsive before c)))

-- Rounds after which nothing is chosen make the ordered run.
abbrev pub OrderedSound : Type 0
OrderedSound = (plan : Plan) (n : ℕ) → chosen plan (ordered n plan) ≡ None → Ordered plan (ordered n plan)

-- The ordered run has some number of rounds.
abbrev pub OrderedComplete : Type 0
OrderedComplete = (plan : Plan) (es : List Effect) → Ordered plan es → (n : ℕ) × (ordered n plan ≡ es)

-- A plan has at most one ordered run.
abbrev pub OrderedUnique : Type 0
OrderedUnique = (plan : Plan) (es fs : List Effect) → Ordered plan es → Ordered plan fs → es ≡ fs

-- In a legal history, all accepted args either wait or were dispatched.
abbrev pub QueueLaw : Type 0
QueueLaw = (displays : List ℕ) (h : History) → Legal displays h → accepted h ≡ reverse (inbound h) ++ dispatched (effects displays h)

-- The accepted args, and those dispatched, keep the rule of each device.
abbrev pub DeviceLaw : Type 0
DeviceLaw =
    (displays : List ℕ) (h : History) (d : ℕ) → Legal displays h → IsTrue (is_some (device_state d (accepted h))) × IsTrue (is_some (device_state d (dispatched (effects displays h))))

-- The number of a live channel is one of those that were opened.
abbrev pub LiveLaw : Type 0
LiveLaw = (displays : List ℕ) (h : History) (c : ℕ) → Legal displays h → live h c ≡ true → (1 ≤ c) × (c ≤ opened h)

-- A step appends to the stream of a channel what it sends to it.
abbrev pub StreamStep : Type 0
StreamStep =
    (displays : List ℕ) (call : Call) (answer : Reply) (h : History) (c : ℕ)
    → Legal displays ((call, answer) ∷ h)
    → stream (effects displays ((call, answer) ∷ h)) c
    ≡ sent_on (clock ((call, answer) ∷ h)) (said_at displays call answer (effects displays h) c) (stream (effects displays h) c)

-- A channel that is not live after a step is sent nothing at it: nothing follows a removal.
abbrev pub SilentLaw : Type 0
SilentLaw =
    (displays : List ℕ) (call : Call) (answer : Reply) (h : History) (c : ℕ)
    → live ((call, answer) ∷ h) c ≡ false → stream (effects displays ((call, answer) ∷ h)) c ≡ stream (effects displays h) c

-- At any time, an id that is down is one pointer.
abbrev pub OnePointer : Type 0
OnePointer =
    (displays : List ℕ) (h : History) (p q : PointerOf)
    → Legal displays h → AllRise h → IsDown (effects displays h) p → IsDown (effects displays h) q → p.device ≡ q.device → p.id ≡ q.id → p ≡ q

-- Every window that holds a pointer is able, and so live, and the snapshot shows it on the display of the device.
abbrev pub HolderLaw : Type 0
HolderLaw =
    (displays : List ℕ) (h : History) (w d i : ℕ) → (scene displays (effects displays h)).holds w d i ≡ true → (able (effects displays h) w ≡ true) × (is_shown_on (snapshot h) (device_display displays d) w ≡ true)

-- In a legal history whose motions have rising ids, each prefix fits the ids that are down: windows hold only ids
-- that are down, and the last motion of a device lists all held pointers.
abbrev pub FitLaw : Type 0
FitLaw = (displays : List ℕ) (h : History) (d : ℕ) → Legal displays h → AllRise h → Fits (scene displays (effects displays h)) d (down_ids (effects displays h) d)

-- The motions of each device in the stream of a live channel follow the rule of streams, and leave down exactly the
-- ids that its window holds.
abbrev pub MotionsLaw : Type 0
MotionsLaw =
    (displays : List ℕ) (h : History) (w d : ℕ)
    → Legal displays h → AllRise h → live h w ≡ true → list_any (λ e. e == d) devices ≡ true
    → sent_down d (stream (effects displays h) w) ≡ Some (filter ((scene displays (effects displays h)).holds w d) (down_ids (effects displays h) d))

-- So do those of a channel that is no longer live.
abbrev pub MotionsComeLaw : Type 0
MotionsComeLaw = (displays : List ℕ) (h : History) (w d : ℕ) → Legal displays h → AllRise h → IsTrue (is_some (sent_down d (stream (effects displays h) w)))

-- The owner of a live channel knows from its stream whether its window has the focus, and each focus change follows
-- the rule.
abbrev pub FocusLaw : Type 0
FocusLaw = (displays : List ℕ) (h : History) (w : ℕ) → Legal displays h → live h w ≡ true → sent_focus (stream (effects displays h) w) ≡ Some (has_focus h w)

-- So do those of a channel that is no longer live.
abbrev pub FocusComesLaw : Type 0
FocusComesLaw = (displays : List ℕ) (h : History) (w : ℕ) → Legal displays h → IsTrue (is_some (sent_focus (stream (effects displays h) w)))

-- The messages of each key in the stream of a live channel follow the rule of streams, and the keys that are down
-- after them are exactly those that its window holds, each with the next repeat number.
abbrev pub KeysLaw : Type 0
KeysLaw =
    (displays : List ℕ) (h : History) (w d s : ℕ)
    → Legal displays h → live h w ≡ true
    → sent_repeat d s (stream (effects displays h) w)
    ≡ Some (next_repeat (held_key (keys (effects displays h) w) d s) (last_message d s (stream (effects displays h) w)))

-- So do those of a channel that is no longer live.
abbrev pub KeysComeLaw : Type 0
KeysComeLaw = (displays : List ℕ) (h : History) (w d s : ℕ) → Legal displays h → IsTrue (is_some (sent_repeat d s (stream (effects displays h) w)))

-- The last message of a key that a window holds is a down or a repeat with the same code and meta bits, from which its cancel is made.
abbrev pub HeldKeyLaw : Type 0
HeldKeyLaw =
    (displays : List ℕ) (h : History) (w d s : ℕ) (k : KeyArgs)
    → Legal displays h → live h w ≡ true → held_key (keys (effects displays h) w) d s ≡ Some k
    → (k.down ≡ true) × (n : ℕ) × (last_message d s (stream (effects displays h) w) ≡ Some (record { key = k; flags = 0; repeat = n }))

-- The last key message that was sent to any window, from which a repeat is made, is the newest one in the stream of its channel.
abbrev pub LastKeyLaw : Type 0
LastKeyLaw =
    (displays : List ℕ) (h : History) (last : Sent)
    → last_key (effects displays h) ≡ Some last → newest_key (stream (effects displays h) last.channel) ≡ Some last.key

-- The terms of a channel are settled when it is opened: a step leaves those of each channel that was opened before.
abbrev pub TermsLaw : Type 0
TermsLaw =
    (displays : List ℕ) (call : Call) (answer : Reply) (h : History) (c : ℕ)
    → Legal displays ((call, answer) ∷ h) → c ≤ opened h → terms_of ((call, answer) ∷ h) c ≡ terms_of h c

-- The stream of a live channel is well-formed, and leaves its owner knowing what its window holds: exactly the ids and
-- the keys that are down, and whether it is focused.
abbrev pub WholeLaw : Type 0
WholeLaw =
    (displays : List ℕ) (h : History) (w : ℕ)
    → Legal displays h → AllRise h → live h w ≡ true
    → stream_state (stream (effects displays h) w) ≡ Some (known_state (effects displays h) w)

-- The stream of each channel is well-formed.
abbrev pub WellFormedLaw : Type 0
WellFormedLaw = (displays : List ℕ) (h : History) (w : ℕ) → Legal displays h → AllRise h → IsTrue (is_well_formed (stream (effects displays h) w))

-- A removed channel stays removed, and its stream is that of just before its removal.
abbrev pub RemovedLaw : Type 0
RemovedLaw =
    (displays : List ℕ) (later h : History) (now c : ℕ)
    → Legal displays (later ++ (Remove now c, Done) ∷ h)
    → (live (later ++ (Remove now c, Done) ∷ h) c ≡ false)
    × (stream (effects displays (later ++ (Remove now c, Done) ∷ h)) c ≡ stream (effects displays h) c)

-- The stream of a removed channel leaves its owner knowing what its window held, and whether it was focused, just before
-- the removal.
abbrev pub RemovedStateLaw : Type 0
RemovedStateLaw =
    (displays : List ℕ) (later h : History) (now c : ℕ)
    → Legal displays (later ++ (Remove now c, Done) ∷ h) → AllRise (later ++ (Remove now c, Done) ∷ h)
    → stream_state (stream (effects displays (later ++ (Remove now c, Done) ∷ h)) c) ≡ Some (known_state (effects displays h) c)

-- A call on a channel that is not live replies Gone.
abbrev pub GoneLaw : Type 0
GoneLaw =
    (displays : List ℕ) (h : History) (c : ℕ)
    → live h c ≡ false
    → (reply displays h (Receive c) ≡ Gone)
    × ((now seq : ℕ) → reply displays h (Finish now c seq) ≡ Gone)
    × ((now device : ℕ) → reply displays h (Pilfer now c device) ≡ Gone)
    × ((now : ℕ) → reply displays h (Remove now c) ≡ Gone)

-- The messages of a stream are numbered from 1, their moments never decrease, and none is later than the clock.
abbrev pub NumbersLaw : Type 0
NumbersLaw =
    (displays : List ℕ) (h : History) (w : ℕ)
    → IsNumbered (stream (effects displays h) w) × NeverFalls (clock h) (stream (effects displays h) w)

-- In the stream of a live channel, each pointer of a device alternately goes down and ends, and is down at the end
-- exactly if its window holds it. So a pointer that went down goes up or is cancelled once, unless it is still down.
abbrev pub TurnsLaw : Type 0
TurnsLaw =
    (displays : List ℕ) (h : History) (w d i : ℕ)
    → Legal displays h → AllRise h → live h w ≡ true → list_any (λ e. e == d) devices ≡ true
    → sent_pointer d i (stream (effects displays h) w) ≡ Some ((scene displays (effects displays h)).holds w d i)

-- The same holds in the stream of a channel that is no longer live.
abbrev pub TurnsComeLaw : Type 0
TurnsComeLaw =
    (displays : List ℕ) (h : History) (w d i : ℕ)
    → Legal displays h → AllRise h → IsTrue (is_some (sent_pointer d i (stream (effects displays h) w)))

-- In a legal history the keys computed for a window are those that it holds by the facts about indices.
abbrev pub KeyPlacesLaw : Type 0
KeyPlacesLaw =
    (displays : List ℕ) (h : History) (w : ℕ) (k : KeyArgs)
    → Legal displays h
    → (held_key (keys (effects displays h) w) k.device k.scan ≡ Some k) ↔ HoldsKey (effects displays h) w k

-- In a legal history a window holds each key once, and the keys that it holds are down on their devices.
abbrev pub KeysDownLaw : Type 0
KeysDownLaw =
    (displays : List ℕ) (h : History) (w : ℕ)
    → Legal displays h
    → AllDiffer (keys (effects displays h) w)
    × ((d s : ℕ) (k : KeyArgs) → held_key (keys (effects displays h) w) d s ≡ Some k → is_key_down (effects displays h) d s ≡ true)
