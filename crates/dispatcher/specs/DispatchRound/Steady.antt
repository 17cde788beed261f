-- A round that gives and takes no pointer, and leaves the focus.
use Rattle.std.specs.Prelude.{◌≡◌, ◌≤◌, ℕ, ◌+◌, Bool, false, List, length, map, Option, Some, None, IfSome}
use Rattle.std.specs.Option.{option_copied}
use Rattle.input_types.specs.declared.message.Body.{Body}
use Rattle.input_types.specs.declared.message.Body.TheVariants.{Key}
use Rattle.input_types.specs.declared.motion.Motion.{Motion}
use Rattle.input_types.specs.declared.motion.MotionAction.TheVariants.{Move}
use Rattle.routing_rules.specs.Outgoing.{listing, moves}
use Rattle.touch_state.specs.Touches.{Touches}
use Rattle.dispatcher.specs.WindowCovers.Covers.{CoverTable}
use Rattle.dispatcher.specs.KeyTables.Held.{bodies_tracked}
use Rattle.route_split.specs.declared.mark.Mark.TheVariants.{NoOp}
use Rattle.route_split.specs.Tables.{any_at, holds_at}
use Rattle.dispatcher.specs.DispatchChannels.Table.{Table, channel_of, input_of}
use Rattle.dispatcher.specs.declared.dispatch_round.round.Round.{Round}
use Rattle.dispatcher.specs.declared.dispatch_round.listener.Listener.{Listener}
use Rattle.dispatcher.specs.DispatchRound.Bodies.{keys_to, told}
use Rattle.dispatcher.specs.DispatchRound.Saying.{GetsMotions}

-- The round gives and takes nothing. Its motion, if it has one, is a Move. No window watches for it, and no focus changes.
pub record IsSteady (r : Round) : Type 0 where
  pub mark_is : r.mark ≡ NoOp
  pub motion_is : IfSome (option_copied r.motion) (λ m. m.action ≡ Move)
  pub watchers_is : r.watchers ≡ 0
  pub lost_is : r.lost ≡ 0
  pub gained_is : r.gained ≡ 0

-- a window holds something of the device of a motion
abbrev pub held_by : List Touches → Option Motion → ℕ → Bool
held_by ts (Some m) w = any_at ts w m.device
held_by ts None w = false

-- what a window is sent for a Move by which no pointer changes hands: a Move of the pointers that it holds, if some of them are listed
abbrev pub moved : CoverTable → List Touches → Motion → (w : ℕ) → List Body
moved covers ts m w = told covers w (moves m.device (listing (holds_at ts w m.device) m.pointers))

-- the most messages that a window is sent for the motion
abbrev pub most_moves : Option Motion → ℕ
most_moves (Some m) = 1
most_moves None = 0

-- the most messages that it is sent in the round
abbrev pub most_steady : Round → (w : ℕ) → ℕ
most_steady r w = most_moves (option_copied r.motion) + length (keys_to r.target r.keys.now w)

-- a channel, and what is kept of its window, have room for that many
abbrev pub HasSteadyRoom : Round → Table → (w : ℕ) → Type 0
HasSteadyRoom r t w = (most_steady r w ≤ (channel_of t w).spare) × (most_steady r w ≤ (input_of t w).spare)

-- a window is sent what the rules say of the motion, and no more messages than that
pub record GetsMoves (r : Round) (ts : List Touches) (to : Listener) (old new : Table) : Type 0 where
  pub gets : GetsMotions r ts None to old new
  pub few : length gets.motions ≤ most_moves (option_copied r.motion)

-- what it is sent in the round uses no more room than that, and the keys that are down in it afterwards are those that the keys of the round leave
pub record SpendsSteady (r : Round) (old new : Table) (w : ℕ) : Type 0 where
  pub room : (channel_of old w).spare ≤ (channel_of new w).spare + most_steady r w
  pub track_room : (input_of old w).spare ≤ (input_of new w).spare + most_steady r w
  pub keys_are : (input_of new w).keys ≡ bodies_tracked (map Key (keys_to r.target r.keys.now w)) (input_of old w).keys
