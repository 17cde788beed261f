-- Steps that send windows something, by what is kept.
use Rattle.std.specs.Prelude.{◌≡◌, ◌≤◌, ◌<◌, ◌+◌, ℕ, suc, Bool, true, false, not, ◌&&◌, List, [], Option, Some, None, if◌then◌else◌}
use Rattle.input_types.specs.declared.key.KeyMsg.{KeyMsg}
use Rattle.window_snapshot.specs.declared.window.Window.{Window}
use Rattle.window_snapshot.specs.Mask.{mask_has, mask_with}
use Rattle.window_snapshot.specs.Named.{is_focusable_on}
use Rattle.focus_resolver.specs.Resolver.{FocusState, after_request, may_by, is_at, is_focused, focus_of, target_of}
use Rattle.key_repeat.specs.Due.{Sent}
use Rattle.dispatcher.specs.InputChannel.State.{opened_with}
use Rattle.dispatcher.specs.CancelSynthesis.Tracked.{pointers_of}
use Rattle.routing_rules.specs.Taking.{takes, pilfers}
use Rattle.route_split.specs.declared.mark.Mark.TheVariants.{Forget}
use Rattle.route_split.specs.Tables.{ChangesAll}
use Rattle.route_split.specs.Marking.{gives, taking}
use Rattle.dispatch_calls.specs.declared.call.Call.{Call}
use Rattle.dispatch_calls.specs.declared.call.Call.TheVariants.{Open, Windows, FocusOn, Pump, Tick, Pilfer, Remove}
use Rattle.dispatch_calls.specs.declared.reply.Reply.{Reply}
use Rattle.dispatch_calls.specs.declared.reply.Reply.TheVariants.{Done, Dispatched, Repeated, Named}
use Rattle.dispatch_history.specs.Queue.{args_of}
use Rattle.dispatcher.specs.KeyTables.Held.{target_sent}
use Rattle.dispatcher.specs.KeyTables.Repeats.{repeat_next}
use Rattle.dispatcher.specs.DispatchChannels.Table.{Table, opened, channel_of, input_of}
use Rattle.dispatcher.specs.DispatchChannels.Changes.{named_in, removed_in}
use Rattle.dispatcher.specs.declared.dispatch_round.round.Round.{Round}
use Rattle.dispatcher.specs.Covering.{CoversGo}
use Rattle.dispatcher.specs.Queue.{QueueGoes}
use Rattle.dispatcher.specs.Shown.{ShownGoes}
use Rattle.dispatcher.specs.Knows.{Kept}
use Rattle.dispatcher.specs.Staying.{delivery_of}
use Rattle.dispatch_calls.specs.declared.terms.Terms.{Terms}

-- the channels before anything is sent: one is removed, some are reported unresponsive at this clock, or all stay
abbrev pub parted_in : Call → Reply → (clock : ℕ) → Table → Table
parted_in (Remove now c) Done clock t = removed_in c t
parted_in (Tick now) (Named mask) clock t = named_in mask clock t
parted_in call answer clock t = t

-- the focus is computed anew: a channel may have the focus of a display if it is live and has a window there that can take the focus
abbrev pub Refocuses : List Window → (alive : ℕ) → (old new : FocusState) → Type 0
Refocuses windows alive old new =
    (masks : List ℕ)
    × (new ≡ record { requested = old.requested; last = old.last; focusable = masks })
    × ((y c : ℕ) → y < 4 → may_by masks y c ≡ (mask_has alive c && is_focusable_on windows y c))

-- the focus after a step, by the windows that are shown and the channels that are live then
abbrev pub FocusGoes : Call → List Window → (alive : ℕ) → (old new : FocusState) → Type 0
FocusGoes (FocusOn now display channel keys) windows alive old new =
    (display < 4) × (new ≡ after_request display channel keys old)
FocusGoes (Open terms) windows alive old new = Refocuses windows alive old new
FocusGoes (Windows now shown) windows alive old new = Refocuses windows alive old new
FocusGoes (Remove now c) windows alive old new = Refocuses windows alive old new
FocusGoes call windows alive old new = new ≡ old

-- the key messages that the key target is sent at a step with this call and reply, which leads to this focus
abbrev pub sent_target : Call → Reply → Kept → FocusState → (target : ℕ) → List KeyMsg
sent_target call answer k later t =
    target_sent call answer (args_of call answer k.queue.waiting) t (mask_has k.delivery.able t) (is_at (target_of later) t)
    (k.inputs t).keys k.repeat

-- these keys are those that the key target is sent, if it is live after the step; without a key target there are none
abbrev pub AreKeys : (target : Option ℕ) → (alive : ℕ) → (outgoing : ℕ → List KeyMsg) → (channel : ℕ) → List KeyMsg → Type 0
AreKeys None alive outgoing channel keys = keys ≡ []
AreKeys (Some t) alive outgoing channel keys = (channel ≡ t) × (mask_has alive t ≡ true → keys ≡ outgoing t)

-- the last key message after the key target was sent these keys at a clock
abbrev pub repeat_then : (target : Option ℕ) → (alive clock : ℕ) → List KeyMsg → Option Sent → Option Sent
repeat_then None alive clock keys last = last
repeat_then (Some t) alive clock keys last = repeat_next (mask_has alive t) clock t keys last

-- the masks say which live channels lose the focus, and which gain it
abbrev pub SendsFocus : (lost gained alive : ℕ) → (old new : FocusState) → Type 0
SendsFocus lost gained alive old new =
    (w : ℕ) → mask_has alive w ≡ true
    → (mask_has lost w ≡ (is_focused (focus_of old) w && not (is_focused (focus_of new) w)))
    × (mask_has gained w ≡ (is_focused (focus_of new) w && not (is_focused (focus_of old) w)))

-- A round changes everything that is kept except the channels: the queue, the windows, the touches by its mark, what lies over windows by
-- its gift, the focus, whose change it sends, and the last key message, if it sends the key target one. `alive` is the mask of the channels
-- that are live afterwards.
pub record GoesRound (call : Call) (answer : Reply) (r : Round) (alive : ℕ) (k later : Kept) : Type 0 where
  pub queue : QueueGoes call answer k.queue later.queue
  pub shown : ShownGoes call k.shown later.shown
  pub touches : ChangesAll k.touches later.touches (gives r.mark) (takes (taking k.touches r.mark)) k.queue.place (pilfers (taking k.touches r.mark))
  pub covers : CoversGo r.gift k.touches k.covers later.covers
  pub focus : FocusGoes call later.shown.windows alive k.focus later.focus
  pub changes : SendsFocus r.lost r.gained alive k.focus later.focus
  pub keys : AreKeys (target_of k.focus) alive (sent_target call answer k later.focus) r.target r.keys.now
  pub repeat_is : later.repeat ≡ repeat_then (target_of k.focus) alive later.queue.clock r.keys.now k.repeat

-- the steps that may send something, except those that open a channel
abbrev pub is_sending : Call → Reply → Bool
is_sending (Windows now shown) Done = true
is_sending (FocusOn now display channel keys) Done = true
is_sending (Pump now) Dispatched = true
is_sending (Pump now) Repeated = true
is_sending (Tick now) (Named mask) = true
is_sending (Pilfer now channel device) Done = true
is_sending (Remove now channel) Done = true
is_sending call answer = false

-- A channel with the next number is opened on these terms, with room for some messages. Its window holds nothing, and it is live and able.
pub record OpensWith (terms : Terms) (number : ℕ) (old new : Table) : Type 0 where
  pub room : ℕ
  pub number_is : number ≡ opened old + 1
  pub as_many : opened new ≡ suc (opened old)
  pub others :
      (c : ℕ) → 1 ≤ c → c ≤ opened old → (channel_of new c ≡ channel_of old c) × (input_of new c ≡ input_of old c)
  pub channel_is : channel_of new number ≡ (let bare = opened_with terms in record bare { spare = room })
  pub pointers_are : (d : ℕ) → pointers_of (input_of new number) d ≡ []
  pub keys_are : (input_of new number).keys ≡ []
  pub live_is : new.live ≡ mask_with old.live number
  pub able_is : new.able ≡ mask_with old.able number
  pub anrs_are : new.anrs ≡ old.anrs

-- A step removes a channel and sends nobody anything. The channel is no longer live, and its window holds nothing and has no focus. If it was
-- the key target, no key is repeated any more.
pub record GoesRemoved (now channel : ℕ) (t : Table) (k later : Kept) : Type 0 where
  pub queue : QueueGoes (Remove now channel) Done k.queue later.queue
  pub shown_is : later.shown ≡ k.shown
  pub touches :
      ChangesAll k.touches later.touches (gives (Forget channel)) (takes (taking k.touches (Forget channel))) k.queue.place
      (pilfers (taking k.touches (Forget channel)))
  pub covers_are : later.covers ≡ k.covers
  pub delivery_is : later.delivery ≡ delivery_of (removed_in channel t)
  pub inputs_are : later.inputs ≡ k.inputs
  pub focus : Refocuses k.shown.windows (removed_in channel t).live k.focus later.focus
  pub repeat_is : later.repeat ≡ (if is_at (target_of k.focus) channel then None else k.repeat)
