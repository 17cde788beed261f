-- How carrying out a step changes the tables.
use Rattle.std.specs.Prelude.{◌≡◌, ℕ, false, List, [], Option, None}
use Rattle.std.specs.Option.{option_copied}
use Rattle.input_types.specs.declared.axis.Pixel.{Pixel}
use Rattle.input_types.specs.declared.key.KeyMsg.{KeyMsg}
use Rattle.input_types.specs.declared.motion.Motion.{Motion}
use Rattle.window_snapshot.specs.Mask.{mask_has}
use Rattle.focus_resolver.specs.declared.resolver.Change.{Change}
use Rattle.routing_rules.specs.Scene.{Scene, Step}
use Rattle.routing_rules.specs.Taking.{takes, pilfers}
use Rattle.touch_state.specs.Touches.{Touches}
use Rattle.route_split.specs.declared.mark.Mark.{Mark}
use Rattle.route_split.specs.Tables.{ChangesAll}
use Rattle.route_split.specs.Marking.{gives, taking}
use Rattle.dispatcher.specs.KeyTables.Repeats.{repeat_after}
use Rattle.dispatcher.specs.DispatchChannels.Table.{Table, but_for_room}
use Rattle.dispatcher.specs.declared.dispatch_round.round.Round.{Round}
use Rattle.dispatcher.specs.DispatchRound.Rounds.{IsRound, AllHoldPointers, sent_in, may_take}
use Rattle.dispatcher.specs.DispatchRound.Outgoing.{SendsAll}
use Rattle.dispatcher.specs.declared.tables.Routing.{Routing}
use Rattle.dispatcher.specs.WindowCovers.Covers.{CoverTable}
use Rattle.dispatcher.specs.Covering.{CoversGo, GivesNone}
use Rattle.dispatcher.specs.Keying.{target_number}
use Rattle.dispatcher.specs.Tables.{ReleasesNone}

-- the tables of touches change by the mark of a step, at the index of the step
abbrev pub TakesMark : Mark → (place : ℕ) → (old new : List Touches) → Type 0
TakesMark mark place old new = ChangesAll old new (gives mark) (takes (taking old mark)) place (pilfers (taking old mark))

-- In every scene in which this round is the round of a step, the channels of a mask are sent what the rules say of the step, and no other
-- channel is sent anything.
pub record SendsRound (round : Round) (touches : List Touches) (covers : CoverTable) (origins : List Pixel) (clock : ℕ) (old new : Table) : Type 0 where
  pub changed : ℕ
  pub sends :
      (s : Scene) (e : Step)
      → IsRound s e touches round → AllHoldPointers s old → SendsAll changed (sent_in covers round s e) origins clock old new

-- a round is carried out: windows are sent their messages, pointers change hands, and the last key message is kept
pub record CarriesOut (round : Round) (place clock : ℕ) (old new : Routing) : Type 0 where
  pub touches : TakesMark round.mark place old.touches new.touches
  pub covers : CoversGo round.gift old.touches old.covers new.covers
  pub channels : SendsRound round old.touches new.covers old.shown.origins clock old.channels new.channels
  pub gone_are : ReleasesNone old.channels new.channels
  pub repeat_is : new.repeat ≡ repeat_after clock round.target round.keys.now old.repeat
  pub displays_are : new.displays ≡ old.displays
  pub shown_is : new.shown ≡ old.shown
  pub focus_is : new.focus ≡ old.focus

-- a round is carried out from tables that equal these except for the room of the channels
pub record CarriesFrom (round : Round) (place clock : ℕ) (old new : Routing) : Type 0 where
  pub mid : Table
  pub same : but_for_room mid ≡ but_for_room old.channels
  pub carries : CarriesOut round place clock (record old { channels = mid }) new

-- the parts of a round: its mark; its motion, without which it gives nothing; the key target and the keys that it is sent; who loses and gains
-- the focus
pub record IsOf (mark : Mark) (motion : Option Motion) (target : ℕ) (keys : List KeyMsg) (lost gained : ℕ) (r : Round) : Type 0 where
  pub mark_is : r.mark ≡ mark
  pub motion_is : option_copied r.motion ≡ motion
  pub gift_is : GivesNone motion r.gift
  pub target_is : r.target ≡ target
  pub keys_are : r.keys.now ≡ keys
  pub lost_is : r.lost ≡ lost
  pub gained_is : r.gained ≡ gained

-- a round without a motion is carried out
pub record CarriesSome (mark : Mark) (keys : List KeyMsg) (lost gained place clock : ℕ) (old new : Routing) : Type 0 where
  pub round : Round
  pub is : IsOf mark None (target_number old.focus) keys lost gained round
  pub carries : CarriesFrom round place clock old new

-- such a round sends nobody anything
pub record IsSilent (mark : Mark) (keys : List KeyMsg) (change : Change) : Type 0 where
  pub takes_none : may_take mark ≡ false
  pub no_keys : keys ≡ []
  pub none_lost : (w : ℕ) → mask_has change.lost w ≡ false
  pub none_gained : (w : ℕ) → mask_has change.gained w ≡ false
