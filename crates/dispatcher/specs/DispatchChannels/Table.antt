-- The channels of a dispatcher as contracts see them.
use Rattle.std.specs.Prelude.{ℕ, ◌-◌, ◌≤◌, List, [], length, map, slice_index_or, slice_set, Option}
use Rattle.dispatcher.specs.InputChannel.State.{ChannelState, opened_with, with_spare}
use Rattle.dispatcher.specs.CancelSynthesis.Tracked.{Tracked}
use Rattle.dispatcher.specs.CancelSynthesis.Tracked.{with_spare as tracked_with_spare}
use Rattle.window_snapshot.specs.Mask.{mask_has}
use Rattle.dispatcher.specs.DispatchTables.Delivery.{Noted}
use Rattle.dispatcher.specs.DispatchTables.Dues.{due_in}
use Rattle.dispatch_history.specs.History.{no_terms}

-- all channels
pub record Table : Type 0 where
  -- the channels in the order of their opening, that with number 1 first
  pub channels : List ChannelState
  -- of each, the pointers and keys still down in its window's stream
  pub inputs : List Tracked
  -- the mask of those that are live
  pub live : ℕ
  -- the mask of those that are able to take input
  pub able : ℕ
  -- what was noted of ticks
  pub anrs : Noted

-- how many channels were opened; they have the numbers from 1 to this
abbrev pub opened : Table → ℕ
opened t = length t.channels

-- a channel that was opened has the number
abbrev pub IsOpened : Table → ℕ → Type 0
IsOpened t c = (1 ≤ c) × (c ≤ opened t)

-- the channel with a number from 1 on, of a list of channels; one without messages where none was opened with it
abbrev pub channel_in : List ChannelState → ℕ → ChannelState
channel_in ss c = slice_index_or ss (c - 1) (opened_with no_terms)

-- the same of all channels
abbrev pub channel_of : Table → ℕ → ChannelState
channel_of t c = channel_in t.channels c

-- a window that was sent nothing
abbrev pub unsent : Tracked
unsent = record { pointers = []; keys = []; spare = 0 }

-- what the window of the channel with a number from 1 on was sent
abbrev pub input_of : Table → ℕ → Tracked
input_of t c = slice_index_or t.inputs (c - 1) unsent

-- the channels with another one in a place
abbrev pub with_channel : ℕ → ChannelState → Table → Table
with_channel c s t = record t { channels = slice_set t.channels (c - 1) s }

-- a channel has room for at least so many messages
abbrev pub with_room : (channel n : ℕ) → Table → Table
with_room c n t =
    record t {
      channels = slice_set t.channels (c - 1) (with_spare n (channel_of t c));
      inputs = slice_set t.inputs (c - 1) (tracked_with_spare n (input_of t c));
    }

-- the channels without regard to their room
abbrev pub but_for_room : Table → Table
but_for_room t =
    record t {
      channels = map (λ s. let bare : ChannelState = record s { spare = 0 } in bare) t.channels;
      inputs = map (λ i. let bare : Tracked = record i { spare = 0 } in bare) t.inputs;
    }

-- no channel, and nothing that is kept of its window, has less room than before
abbrev pub NoLessRoom : (old new : Table) → Type 0
NoLessRoom old new =
    (c : ℕ) → ((channel_of old c).spare ≤ (channel_of new c).spare) × ((input_of old c).spare ≤ (input_of new c).spare)

-- the moment at which a channel that is able is due to be reported: its limit after the delivery of its oldest published and
-- unfinished message
abbrev pub due_moment : Table → ℕ → Option ℕ
due_moment t c = due_in (mask_has t.able c) (channel_of t c)
