-- What always holds of the channels.
use Rattle.std.specs.Prelude.{◌≡◌, ℕ, ◌≤◌, true, List, length, Option}
use Rattle.dispatcher.specs.InputChannel.State.{ChannelState}
use Rattle.dispatcher.specs.AnrTracker.Due.{due_of}
use Rattle.window_snapshot.specs.Mask.{mask_has}
use Rattle.dispatcher.specs.DispatchTables.Dues.{due_in}
use Rattle.dispatcher.specs.DispatchChannels.Table.{channel_in}

-- each channel is due where it is able and an unfinished message of it is published
abbrev pub DuesAre : List (Option ℕ) → (able : ℕ) → List ChannelState → Type 0
DuesAre dues able channels = (c : ℕ) → due_of dues c ≡ due_in (mask_has able c) (channel_in channels c)

-- at most 64 channels, of each of which there is what it was sent; only those that were opened are live, and only those that are live
-- are able
pub record IsWhole (channels : List ChannelState) (inputs live able : ℕ) (dues : List (Option ℕ)) : Type 0 where
  pub as_many : inputs ≡ length channels
  pub few : length channels ≤ 64
  pub places : length dues ≡ 64
  pub opened_live : (c : ℕ) → mask_has live c ≡ true → c ≤ length channels
  pub live_able : (c : ℕ) → mask_has able c ≡ true → mask_has live c ≡ true
  pub dues_are : DuesAre dues able channels
