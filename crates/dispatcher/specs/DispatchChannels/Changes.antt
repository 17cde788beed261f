-- How the calls change the channels.
use Rattle.std.specs.Prelude.{◌≡◌, ℕ, ◌+◌, ◌-◌, ◌≤◌, ◌<◌, true, not, ◌&&◌, nat_le, [], ◌∷◌, length, ◌++◌, slice_set, Option, Some, None, if◌then◌else◌}
use Rattle.input_types.specs.declared.axis.Pixel.{Pixel}
use Rattle.input_types.specs.declared.message.Body.{Body}
use Rattle.dispatcher.specs.InputChannel.Order.{NoneAfter}
use Rattle.dispatcher.specs.InputChannel.State.{ChannelState, opened_with, with_spare, enqueued, each_released, published_at, finished_with, has_late}
use Rattle.dispatcher.specs.CancelSynthesis.Tracked.{Tracked, Tracks, pointers_of}
use Rattle.dispatch_calls.specs.declared.counts.Counts.{Counts}
use Rattle.window_snapshot.specs.Mask.{mask_has, mask_with}
use Rattle.dispatcher.specs.DispatchTables.Channel.{counts_of}
use Rattle.dispatcher.specs.DispatchTables.Masks.{mask_less}
use Rattle.dispatcher.specs.DispatchTables.Delivery.{noted_with}
use Rattle.dispatcher.specs.DispatchTables.Dues.{anrs_in}
use Rattle.dispatcher.specs.DispatchChannels.Table.{Table, opened, channel_of, input_of}
use Rattle.dispatcher.specs.DispatchChannels.FromOrigin.{body_from}
use Rattle.dispatch_calls.specs.declared.terms.Terms.{Terms}

-- a window was sent nothing, and there is room for what it is sent first
pub record IsUnsent (input : Tracked) : Type 0 where
  pub pointers_are : (d : ℕ) → pointers_of input d ≡ []
  pub keys_are : input.keys ≡ []
  pub spare_is : input.spare ≡ 1

-- a channel without messages, with room for the first one
abbrev pub new_channel : (terms : Terms) → ChannelState
new_channel terms = with_spare 1 (opened_with terms)

-- A channel with the next number is opened on these terms, and is live and able. What is kept of the other windows stays. Before, only
-- channels that were opened were live.
pub record OpensChannel (terms : Terms) (number : ℕ) (old new : Table) : Type 0 where
  pub few : opened old < 64
  pub as_many : length old.inputs ≡ opened old
  pub opened_live : (c : ℕ) → mask_has old.live c ≡ true → c ≤ opened old
  pub number_is : number ≡ opened old + 1
  pub channels_are : new.channels ≡ old.channels ++ new_channel terms ∷ []
  pub inputs_are : new.inputs ≡ old.inputs ++ input_of new number ∷ []
  pub unsent : IsUnsent (input_of new number)
  pub live_is : new.live ≡ mask_with old.live number
  pub able_is : new.able ≡ mask_with old.able number
  pub anrs_are : new.anrs ≡ old.anrs

-- no channel is opened exactly if 64 were opened already, and then nothing changes
abbrev pub OpensOrNot : (terms : Terms) → Option ℕ → (old new : Table) → Type 0
OpensOrNot terms None old new = (opened old ≡ 64) × (new ≡ old)
OpensOrNot terms (Some number) old new = OpensChannel terms number old new

-- a channel is sent a body in display pixels: it is enqueued with its positions relative to an origin, and tracked as it is
pub record Sends (channel : ℕ) (body : Body) (origin : Pixel) (clock : ℕ) (old new : Table) : Type 0 where
  pub channels_are : new.channels ≡ slice_set old.channels (channel - 1) (enqueued (body_from origin body) clock (channel_of old channel))
  pub inputs_are : new.inputs ≡ slice_set old.inputs (channel - 1) (input_of new channel)
  pub tracks : Tracks (input_of old channel) (input_of new channel) body
  pub live_is : new.live ≡ old.live
  pub able_is : new.able ≡ old.able
  pub anrs_are : new.anrs ≡ old.anrs

-- the same for a channel that releases the message at once
pub record SendsPast (channel : ℕ) (body : Body) (origin : Pixel) (clock : ℕ) (old new : Table) : Type 0 where
  pub channels_are :
      new.channels ≡ slice_set old.channels (channel - 1) (each_released (enqueued (body_from origin body) clock (channel_of old channel)))
  pub inputs_are : new.inputs ≡ slice_set old.inputs (channel - 1) (input_of new channel)
  pub tracks : Tracks (input_of old channel) (input_of new channel) body
  pub live_is : new.live ≡ old.live
  pub able_is : new.able ≡ old.able
  pub anrs_are : new.anrs ≡ old.anrs

-- none of the unfinished messages of the live channels of a mask was delivered after a clock
abbrev pub MayPublish : (mask clock : ℕ) → Table → Type 0
MayPublish mask clock t =
    (c : ℕ) → mask_has mask c ≡ true → mask_has t.live c ≡ true → NoneAfter clock (channel_of t c).unfinished

-- the live channels of a mask publish at a clock, and everything else stays
pub record Publishes (mask clock : ℕ) (old new : Table) : Type 0 where
  pub channels_are :
      (c : ℕ) → 1 ≤ c
      → channel_of new c ≡ (if mask_has mask c && mask_has old.live c then published_at clock (channel_of old c) else channel_of old c)
  pub as_many : opened new ≡ opened old
  pub inputs_are : new.inputs ≡ old.inputs
  pub live_is : new.live ≡ old.live
  pub able_is : new.able ≡ old.able
  pub anrs_are : new.anrs ≡ old.anrs

-- a channel after one of its messages is finished, and then whatever may be published is published
abbrev pub finished_at : (seq clock : ℕ) → ChannelState → ChannelState
finished_at seq clock s = published_at clock (finished_with seq s)

-- a message is finished at a clock: its channel is able again if it is live and none of its messages is late then
abbrev pub finished_in : (channel seq clock : ℕ) → Table → Table
finished_in c seq clock t =
    let s = finished_at seq clock (channel_of t c) in
    record t {
      channels = slice_set t.channels (c - 1) s;
      able = if mask_has t.live c && not (has_late clock s) then mask_with t.able c else t.able;
    }

-- the channels of a mask are reported unresponsive at a clock
abbrev pub named_in : (mask clock : ℕ) → Table → Table
named_in mask clock t =
    record t {
      able = mask_less t.able mask;
      anrs = noted_with (anrs_in clock mask (channel_of t) (opened t)) t.anrs;
    }

-- a channel is removed
abbrev pub removed_in : ℕ → Table → Table
removed_in c t = record t { live = mask_less t.live (mask_with 0 c); able = mask_less t.able (mask_with 0 c) }

-- how far a channel has come, if it was opened
abbrev pub counts_in : Table → ℕ → Option Counts
counts_in t c = if nat_le 1 c && nat_le c (opened t) then Some (counts_of (mask_has t.live c) (channel_of t c)) else None
