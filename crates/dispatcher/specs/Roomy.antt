-- Room for what pumps send.
use Rattle.std.specs.Prelude.{◌≡◌, ◌≤◌, ◌<◌, ◌+◌, ◌*◌, ◌^◌, ℕ, true, false, List, length, map}
use Rattle.input_types.specs.declared.key.KeyMsg.{KeyMsg}
use Rattle.input_types.specs.declared.message.Body.TheVariants.{Key}
use Rattle.window_snapshot.specs.Mask.{mask_has}
use Rattle.dispatcher.specs.InputChannel.State.{ChannelState}
use Rattle.dispatcher.specs.CancelSynthesis.Tracked.{Tracked}
use Rattle.dispatcher.specs.KeyTables.Held.{bodies_tracked}
use Rattle.dispatcher.specs.DispatchChannels.Table.{Table, channel_of, input_of}
use Rattle.dispatcher.specs.declared.dispatch_round.round.Round.{Round}
use Rattle.dispatcher.specs.DispatchRound.Bodies.{keys_to}
use Rattle.dispatcher.specs.DispatchRound.Rounds.{IsLeft}
use Rattle.dispatcher.specs.DispatchRound.Saying.{Spends}
use Rattle.dispatcher.specs.declared.tables.Routing.{Routing}
use Rattle.dispatcher.specs.declared.tables.Tables.{Tables}

-- A channel has room for what n pumps send it: for 131 messages each, of which 128 may be cancels of pointers, and for one for each key that
-- is down in its window. So has what is kept of the window; and a list has room for those keys when they are cancelled.
pub record HasRoomFor (n list : ℕ) (s : ChannelState) (i : Tracked) : Type 0 where
  pub room : 131 * n + length i.keys ≤ s.spare
  pub track_room : 131 * n + length i.keys ≤ i.spare
  pub small : 131 * n + length i.keys < 2 ^ 31
  pub list_room : length i.keys + n ≤ list

-- each live channel has that room
abbrev pub IsRoomy : (n list : ℕ) → Table → Type 0
IsRoomy n list t = (c : ℕ) → mask_has t.live c ≡ true → HasRoomFor n list (channel_of t c) (input_of t c)

-- After n key messages a window holds at most one key more than before, and at most 2 - n more.
pub record IsModest (keys held : List KeyMsg) : Type 0 where
  pub with_them : length (bodies_tracked (map Key keys) held) + length keys ≤ length held + 2
  pub one_more : length (bodies_tracked (map Key keys) held) ≤ length held + 1

-- in each live window this holds of the key messages that the key target is sent
pub record AreModest (target : ℕ) (keys : List KeyMsg) (t : Table) : Type 0 where
  pub few : length keys < 2 ^ 31
  pub each : (w : ℕ) → mask_has t.live w ≡ true → IsModest (keys_to target keys w) (input_of t w).keys

-- The channels of a mask, which are sent a round, use no more room than the most that it may send them. The others stay as they are, and the
-- same channels are live.
pub record TakesRoom (outgoing : ℕ) (r : Round) (old new : Table) : Type 0 where
  pub spends : (w : ℕ) → mask_has outgoing w ≡ true → Spends r w old new
  pub left : (w : ℕ) → 1 ≤ w → mask_has outgoing w ≡ false → IsLeft old new w
  pub live_is : new.live ≡ old.live

-- there is room for what n pumps send, and in the list for the keys that they cancel
abbrev pub HasPumpRoom : (n : ℕ) → Routing → Type 0
HasPumpRoom n r = IsRoomy n r.cancelled r.channels

-- if room for pumps is promised, it is there
abbrev pub KeepsPromise : Tables → Type 0
KeepsPromise t = 1 ≤ t.queueing.pumps → HasPumpRoom t.queueing.pumps t.routing
