-- The windows of a mask are sent something, one after another.
use Rattle.std.specs.Prelude.{◌≡◌, ◌≤◌, ℕ, Bool, true, false, List, Option, IfSome}
use Rattle.input_types.specs.declared.axis.Pixel.{Pixel}
use Rattle.routing_rules.specs.Scene.{Scene, Step}
use Rattle.touch_state.specs.Touches.{Touches}
use Rattle.dispatcher.specs.WindowCovers.Covers.{CoverTable}
use Rattle.route_split.specs.Marking.{IsChanged, AreLosses}
use Rattle.dispatcher.specs.DispatchChannels.Table.{Table, opened, channel_of, input_of}
use Rattle.dispatcher.specs.declared.dispatch_round.round.Round.{Round}
use Rattle.dispatcher.specs.DispatchRound.Bodies.{TracksAll}
use Rattle.dispatcher.specs.DispatchRound.Rounds.{IsRound, AllHoldPointers, sent_in}
use Rattle.dispatcher.specs.DispatchRound.Outgoing.{origin_at, with_bodies}
use Rattle.dispatcher.specs.DispatchRound.Saying.{Spends}

-- In each scene of the round, the channels that pass the test are sent what the round says. The others stay, and so does everything else.
pub record SendsEach
    (covers : CoverTable) (r : Round) (ts : List Touches) (losses : Option (List ℕ)) (recipient : ℕ → Bool) (origins : List Pixel) (clock : ℕ)
    (old new : Table) : Type 0 where
  pub outgoing :
      (s : Scene) (e : Step) (before : List Touches)
      → IsChanged before ts r.mark losses → IsRound s e before r → AllHoldPointers s old
      → (c : ℕ) → recipient c ≡ true
      → (channel_of new c ≡ with_bodies (sent_in covers r s e c) (origin_at origins c) clock (channel_of old c))
      × TracksAll (input_of old c) (input_of new c) (sent_in covers r s e c)
  pub stays :
      (c : ℕ) → 1 ≤ c → recipient c ≡ false → (channel_of new c ≡ channel_of old c) × (input_of new c ≡ input_of old c)
  pub spends : (c : ℕ) → recipient c ≡ true → Spends r c old new
  pub unfinished_is : (c : ℕ) → 1 ≤ c → (channel_of new c).unfinished ≡ (channel_of old c).unfinished
  pub gone_is : (c : ℕ) → 1 ≤ c → (channel_of new c).gone ≡ (channel_of old c).gone
  pub as_many : opened new ≡ opened old
  pub live_is : new.live ≡ old.live
  pub able_is : new.able ≡ old.able
  pub anrs_are : new.anrs ≡ old.anrs

-- the same, with what windows lost by the mark of the round, if one pilfers
pub record SendsChanged
    (covers : CoverTable) (r : Round) (before ts : List Touches) (recipient : ℕ → Bool) (origins : List Pixel) (clock : ℕ) (old new : Table) : Type 0 where
  pub losses : Option (List ℕ)
  pub losses_are : IfSome losses (AreLosses before r.mark)
  pub gets : SendsEach covers r ts losses recipient origins clock old new
