-- How sending windows their messages changes the channels.
use Rattle.std.specs.Prelude.{◌≡◌, ◌≤◌, ℕ, ◌-◌, true, false, List, [], map, slice_index_or}
use Rattle.input_types.specs.declared.axis.Pixel.{Pixel}
use Rattle.input_types.specs.declared.message.Body.{Body}
use Rattle.window_snapshot.specs.Mask.{mask_has}
use Rattle.dispatcher.specs.InputChannel.State.{ChannelState, published_at}
use Rattle.window_snapshot.specs.Origins.{corner}
use Rattle.dispatcher.specs.DispatchTables.Channel.{enqueued_all}
use Rattle.dispatcher.specs.DispatchChannels.FromOrigin.{body_from}
use Rattle.dispatcher.specs.DispatchChannels.Table.{Table, opened, channel_of, input_of}
use Rattle.dispatcher.specs.DispatchRound.Bodies.{TracksAll}

-- the origin of the window with a number from 1 on
abbrev pub origin_at : List Pixel → ℕ → Pixel
origin_at origins w = slice_index_or origins (w - 1) corner

-- all that a channel is sent is enqueued, in order, with the places counted from the origin of its window
abbrev pub with_bodies : List Body → Pixel → (clock : ℕ) → ChannelState → ChannelState
with_bodies bodies origin clock s = enqueued_all (map (body_from origin) bodies) clock s

-- Each live channel is sent its bodies. Those of a mask are sent theirs, which are tracked, and are published; all others are sent
-- nothing, and stay as they are.
pub record SendsAll (changed : ℕ) (bodies : ℕ → List Body) (origins : List Pixel) (clock : ℕ) (old new : Table) : Type 0 where
  pub are_live : (c : ℕ) → mask_has changed c ≡ true → mask_has old.live c ≡ true
  pub changes :
      (c : ℕ) → mask_has changed c ≡ true
      → channel_of new c ≡ published_at clock (with_bodies (bodies c) (origin_at origins c) clock (channel_of old c))
  pub tracks : (c : ℕ) → mask_has changed c ≡ true → TracksAll (input_of old c) (input_of new c) (bodies c)
  pub stays :
      (c : ℕ) → 1 ≤ c → mask_has changed c ≡ false
      → (channel_of new c ≡ channel_of old c) × (input_of new c ≡ input_of old c)
  pub quiet : (c : ℕ) → mask_has changed c ≡ false → mask_has old.live c ≡ true → bodies c ≡ []
  pub as_many : opened new ≡ opened old
  pub live_is : new.live ≡ old.live
  pub able_is : new.able ≡ old.able
  pub anrs_are : new.anrs ≡ old.anrs
