-- What is read from the tables is what the history says.
use Rattle.std.specs.Prelude.{◌≡◌, ◌≤◌, ℕ, true, List, drop, length, reverse, option_map, Option}
use Rattle.input_types.specs.Displays.{device_display}
use Rattle.window_snapshot.specs.Mask.{mask_has}
use Rattle.dispatcher.specs.AnrTracker.Due.{IsFirst}
use Rattle.dispatcher.specs.InputChannel.State.{ChannelState, oldest_of}
use Rattle.dispatcher.specs.CancelSynthesis.Tracked.{pointers_of}
use Rattle.routing_rules.specs.Marks.{held, since, pilfering}
use Rattle.routing_rules.specs.Pairs.{has, has_any}
use Rattle.routing_rules.specs.Outgoing.{listing}
use Rattle.window_snapshot.specs.Named.{is_shown_on}
use Rattle.touch_state.specs.Touches.{Touches, since as since_in}
use Rattle.route_split.specs.Tables.{table_of, holds_at, any_at, pilfering_at}
use Rattle.dispatcher.specs.KeyTables.Held.{KeysAre}
use Rattle.dispatch_history.specs.History.{clock, live, opened as opened_by, snapshot}
use Rattle.dispatch_history.specs.Effect.{Effect, past_of, stream, last}
use Rattle.dispatch_history.specs.Delivery.{able, delivery, oldest}
use Rattle.dispatch_history.specs.Due.{counts, first_due, anrs}
use Rattle.dispatch_history.specs.KeySent.{repeat_due}
use Rattle.dispatch_history.specs.Step.{marks}
use Rattle.dispatcher.specs.DispatchTables.Channel.{Holds}
use Rattle.dispatcher.specs.DispatchTables.Delivery.{noted_gone}
use Rattle.dispatcher.specs.DispatchTables.Dues.{due_moment, due_pair}
use Rattle.dispatcher.specs.DispatchChannels.Table.{Table, opened, channel_of, input_of, with_channel, but_for_room, due_moment as due_in_table}
use Rattle.dispatcher.specs.DispatchChannels.Changes.{counts_in}
use Rattle.dispatcher.specs.Knows.{Kept, KeptStandsFor, due_again}
use Rattle.dispatcher.specs.Staying.{delivery_of}

-- everything that is kept is the same except the channels
pub record SameBut (k later : Kept) : Type 0 where
  pub queue_is : later.queue ≡ k.queue
  pub shown_is : later.shown ≡ k.shown
  pub touches_are : later.touches ≡ k.touches
  pub covers_are : later.covers ≡ k.covers
  pub focus_is : later.focus ≡ k.focus
  pub repeat_is : later.repeat ≡ k.repeat

-- Tables whose channels differ only in their room stand for the same history.
abbrev pub RoomLaw : Type 0
RoomLaw =
    (displays : List ℕ) (es : List Effect) (k later : Kept) (t u : Table)
    → KeptStandsFor displays es k
    → SameBut k later
    → k.delivery ≡ delivery_of t
    → k.inputs ≡ input_of t
    → later.delivery ≡ delivery_of u
    → later.inputs ≡ input_of u
    → but_for_room u ≡ but_for_room t
    → KeptStandsFor displays es later

-- So do tables in which a channel has released some of its messages; it keeps the rest of its stream.
abbrev pub ReleaseLaw : Type 0
ReleaseLaw =
    (displays : List ℕ) (es : List Effect) (k later : Kept) (t u : Table) (c : ℕ) (s : ChannelState)
    → KeptStandsFor displays es k
    → SameBut k later
    → k.delivery ≡ delivery_of t
    → later.delivery ≡ delivery_of u
    → later.inputs ≡ k.inputs
    → 1 ≤ c
    → c ≤ opened t
    → Holds es c s
    → u ≡ with_channel c s t
    → KeptStandsFor displays es later × ((channel_of u c).messages ≡ drop s.gone (reverse (stream es c)))

-- So do tables in which every channel still agrees with its stream, for example after all have released their messages.
abbrev pub EachGoLaw : Type 0
EachGoLaw =
    (displays : List ℕ) (es : List Effect) (k later : Kept) (t u : Table)
    → KeptStandsFor displays es k
    → SameBut k later
    → k.delivery ≡ delivery_of t
    → later.delivery ≡ delivery_of u
    → later.inputs ≡ k.inputs
    → opened u ≡ opened t
    → u.live ≡ t.live
    → u.able ≡ t.able
    → u.anrs ≡ t.anrs
    → ((c : ℕ) → 1 ≤ c → c ≤ opened t → Holds es c (channel_of t c) → Holds es c (channel_of u c))
    → KeptStandsFor displays es later

-- So do tables whose ANRs are released.
abbrev pub AnrsGoLaw : Type 0
AnrsGoLaw =
    (displays : List ℕ) (es : List Effect) (k later : Kept) (t u : Table)
    → KeptStandsFor displays es k
    → SameBut k later
    → k.delivery ≡ delivery_of t
    → later.delivery ≡ delivery_of u
    → later.inputs ≡ k.inputs
    → u ≡ record t { anrs = noted_gone t.anrs }
    → KeptStandsFor displays es later × (u.anrs.gone ≡ length (anrs es))

-- what is read of the channels
pub record ReadsChannels (es : List Effect) (k : Kept) (t : Table) : Type 0 where
  pub opened_is : opened t ≡ opened_by (past_of es)
  pub live_is : (c : ℕ) → mask_has t.live c ≡ live (past_of es) c
  pub able_is : (c : ℕ) → mask_has t.able c ≡ able es c
  pub counts_are : (c : ℕ) → counts_in t c ≡ counts es c
  pub messages_are :
      (c : ℕ) → 1 ≤ c → c ≤ opened t
      → (channel_of t c).messages ≡ drop (channel_of t c).gone (reverse (stream es c))
  pub oldest_is :
      (c : ℕ) → 1 ≤ c → c ≤ opened t
      → oldest_of (channel_of t c) ≡ option_map (λ m. (m.seq, delivery es c m.seq)) (oldest es c)
  pub anrs_are : t.anrs.left ≡ drop t.anrs.gone (anrs es)
  pub dues_are : due_in_table t ≡ due_moment es
  pub first_is : (first : Option (ℕ × ℕ)) → IsFirst (due_in_table t) first → first_due es ≡ option_map due_pair first

-- The channels are read as the history says.
abbrev pub ReadsChannelsLaw : Type 0
ReadsChannelsLaw =
    (displays : List ℕ) (es : List Effect) (k : Kept) (t : Table)
    → KeptStandsFor displays es k → k.delivery ≡ delivery_of t → ReadsChannels es k t

-- what is read of the clock and of repeats
pub record ReadsMoments (es : List Effect) (k : Kept) : Type 0 where
  pub clock_is : k.queue.clock ≡ clock (past_of es)
  pub repeat_is : due_again k ≡ repeat_due es

-- The clock, and when a repeat is due.
abbrev pub ReadsMomentsLaw : Type 0
ReadsMomentsLaw = (displays : List ℕ) (es : List Effect) (k : Kept) → KeptStandsFor displays es k → ReadsMoments es k

-- who holds what, since when, and who is pilfering which device, by the tables; who holds something is live, able and shown on the display
-- of the device
pub record ReadsTouches (displays : List ℕ) (es : List Effect) (ts : List Touches) : Type 0 where
  pub holds_are : (w d i : ℕ) → holds_at ts w d i ≡ has (held (marks es)) w d i
  pub any_are : (w d : ℕ) → any_at ts w d ≡ has_any (held (marks es)) w d
  pub since_are : (w d : ℕ) → since_in (table_of ts d) w ≡ since (marks es) w d
  pub pilfering_are : (w d : ℕ) → pilfering_at ts w d ≡ pilfering (marks es) w d
  pub holders :
      (w d i : ℕ) → holds_at ts w d i ≡ true
      → (live (past_of es) w ≡ true) × (able es w ≡ true) × (is_shown_on (snapshot (past_of es)) (device_display displays d) w ≡ true)

-- The tables of touches are read as the history says.
abbrev pub ReadsTouchesLaw : Type 0
ReadsTouchesLaw = (displays : List ℕ) (es : List Effect) (k : Kept) → KeptStandsFor displays es k → ReadsTouches displays es k.touches

-- What is kept of a live window are the pointers that it holds, at their last places, and the keys that it holds, each with its last
-- message.
abbrev pub ReadsInputsLaw : Type 0
ReadsInputsLaw =
    (displays : List ℕ) (es : List Effect) (k : Kept) (w : ℕ)
    → KeptStandsFor displays es k
    → live (past_of es) w ≡ true
    → ((d : ℕ) → 1 ≤ d → d ≤ 8 → pointers_of (k.inputs w) d ≡ listing (has (held (marks es)) w d) (last es d))
    × KeysAre es w (k.inputs w).keys
