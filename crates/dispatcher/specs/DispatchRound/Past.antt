-- A Move that bypasses the channels: what a window is sent is tracked, counted and published, and released at once.
use Rattle.std.specs.Prelude.{◌≡◌, ◌≢◌, ◌≤◌, ◌+◌, ◌&&◌, ℕ, Bool, true, false, List}
use Rattle.std.specs.List.{list_any}
use Rattle.input_types.specs.declared.axis.Pixel.{Pixel}
use Rattle.input_types.specs.declared.motion.Motion.{Motion}
use Rattle.window_snapshot.specs.Mask.{mask_has}
use Rattle.dispatcher.specs.InputChannel.State.{ChannelState, each_released, published_at}
use Rattle.dispatcher.specs.CancelSynthesis.Tracked.{Tracked}
use Rattle.touch_state.specs.Touches.{Touches}
use Rattle.dispatcher.specs.WindowCovers.Covers.{CoverTable}
use Rattle.route_split.specs.Tables.{holds_at}
use Rattle.dispatcher.specs.DispatchChannels.Table.{Table, opened, channel_of, input_of}
use Rattle.dispatcher.specs.DispatchRound.Bodies.{TracksAll}
use Rattle.dispatcher.specs.DispatchRound.Steady.{moved}
use Rattle.dispatcher.specs.DispatchRound.Outgoing.{with_bodies}
use Rattle.dispatcher.specs.DispatchRound.Rounds.{IsLeft}

-- a channel enqueues what its window is sent of a Move and releases it, whatever covers the window and wherever its origin is
abbrev pub GetsPast : List Touches → Motion → ℕ → (old new : ChannelState) → Type 0
GetsPast ts m c old new =
    (covers : CoverTable) (o : Pixel) (clock : ℕ) → new ≡ each_released (with_bodies (moved covers ts m c) o clock old)

-- what is kept of the window tracks it
abbrev pub TracksPast : List Touches → Motion → ℕ → (old new : Tracked) → Type 0
TracksPast ts m c old new = (covers : CoverTable) → TracksAll old new (moved covers ts m c)

-- a channel and what is kept of its window lose room for one message at most, and no keys
pub record SpendsOne (old new : Table) (c : ℕ) : Type 0 where
  pub room : (channel_of old c).spare ≤ (channel_of new c).spare + 1
  pub track_room : (input_of old c).spare ≤ (input_of new c).spare + 1
  pub keys_are : (input_of new c).keys ≡ (input_of old c).keys

-- everything except the channels, and what is kept of their windows, is as it was
pub record SameBut (old new : Table) : Type 0 where
  pub as_many : opened new ≡ opened old
  pub live_is : new.live ≡ old.live
  pub able_is : new.able ≡ old.able
  pub anrs_are : new.anrs ≡ old.anrs

-- a Move bypasses the channel of one window
pub record PassesOne (ts : List Touches) (m : Motion) (w : ℕ) (old new : Table) : Type 0 where
  pub changes : GetsPast ts m w (channel_of old w) (channel_of new w)
  pub tracks : TracksPast ts m w (input_of old w) (input_of new w)
  pub spends : SpendsOne old new w
  pub unfinished_is : (channel_of new w).unfinished ≡ (channel_of old w).unfinished
  pub others : (k : ℕ) → 1 ≤ k → k ≢ w → IsLeft old new k
  pub same : SameBut old new

-- a Move bypasses the channels of all windows that pass a test
pub record PassesEach (ts : List Touches) (m : Motion) (recipient : ℕ → Bool) (old new : Table) : Type 0 where
  pub changes : (c : ℕ) → recipient c ≡ true → GetsPast ts m c (channel_of old c) (channel_of new c)
  pub tracks : (c : ℕ) → recipient c ≡ true → TracksPast ts m c (input_of old c) (input_of new c)
  pub spends : (c : ℕ) → recipient c ≡ true → SpendsOne old new c
  pub unfinished_is : (c : ℕ) → 1 ≤ c → (channel_of new c).unfinished ≡ (channel_of old c).unfinished
  pub stays : (c : ℕ) → 1 ≤ c → recipient c ≡ false → IsLeft old new c
  pub same : SameBut old new

-- A Move bypasses the channels of a mask: what each window is sent is tracked, published at a clock and released. Another mask has those that
-- hold some of its pointers.
pub record MovesPast (ts : List Touches) (m : Motion) (outgoing sent clock : ℕ) (old new : Table) : Type 0 where
  pub sent_is : (c : ℕ) → mask_has sent c ≡ (mask_has outgoing c && list_any (λ p. holds_at ts c m.device p.id) m.pointers)
  pub changes :
      (c : ℕ) → mask_has outgoing c ≡ true → (covers : CoverTable) (o : Pixel)
      → channel_of new c ≡ published_at clock (each_released (with_bodies (moved covers ts m c) o clock (channel_of old c)))
  pub tracks : (c : ℕ) → mask_has outgoing c ≡ true → TracksPast ts m c (input_of old c) (input_of new c)
  pub spends : (c : ℕ) → mask_has outgoing c ≡ true → SpendsOne old new c
  pub stays : (c : ℕ) → 1 ≤ c → mask_has outgoing c ≡ false → IsLeft old new c
  pub same : SameBut old new
