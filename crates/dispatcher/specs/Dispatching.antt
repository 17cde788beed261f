-- A dispatcher as contracts see it.
use Rattle.std.specs.Prelude.{ℕ, ◌≤◌, List, Option}
use Rattle.touch_state.specs.Touches.{Touches}
use Rattle.focus_resolver.specs.Resolver.{FocusState}
use Rattle.key_repeat.specs.Due.{Sent}
use Rattle.dispatcher.specs.DispatchChannels.Table.{Table, channel_of, but_for_room}
use Rattle.dispatch_history.specs.Effect.{Effect, past_of}
use Rattle.dispatch_history.specs.PointerOf.{AllRise}
use Rattle.dispatcher.specs.DispatchTables.Channel.{MayGo}
use Rattle.dispatcher.specs.DispatchTables.Lawful.{Lawful}
use Rattle.dispatcher.specs.WindowCovers.Covers.{CoverTable}
use Rattle.dispatcher.specs.Queue.{Queue}
use Rattle.dispatcher.specs.Queueing.{with_room as queue_with_room, with_args_room as queue_with_args_room}
use Rattle.dispatcher.specs.Shown.{Shown}
use Rattle.dispatcher.specs.Knows.{Kept}
use Rattle.dispatcher.specs.Knows.{Knows, KeptStandsFor}
use Rattle.dispatcher.specs.Seen.{kept_of}

-- the displays of the devices, and all tables; of the channels but for the room that they have
pub record Dispatching : Type 0 where
  pub displays : List ℕ
  pub queue : Queue
  pub shown : Shown
  pub touches : List Touches
  pub covers : CoverTable
  pub channels : Table
  pub focus : FocusState
  pub repeat : Option Sent

-- what is seen of tables in which channels have room
abbrev pub seen_of : List ℕ → Queue → Shown → List Touches → CoverTable → Table → FocusState → Option Sent → Dispatching
seen_of displays queue shown touches covers channels focus repeat =
    record {
      displays = displays;
      queue = queue;
      shown = shown;
      touches = touches;
      covers = covers;
      channels = but_for_room channels;
      focus = focus;
      repeat = repeat;
    }

-- room for at least so many args more
abbrev pub with_args_room : ℕ → Dispatching → Dispatching
with_args_room n d = record d { queue = queue_with_args_room n d.queue }

-- room for at least so many args more, and for at least so many pumps
abbrev pub with_room : ℕ → Dispatching → Dispatching
with_room n d = record d { queue = queue_with_room n d.queue }

-- what is kept in place of a history
abbrev pub kept : Dispatching → Kept
kept d = kept_of d.queue d.shown d.touches d.covers d.channels d.focus d.repeat

-- it is as after a legal history with these effects, but for messages that were released, received or not
abbrev pub IsAfter : List Effect → Dispatching → Type 0
IsAfter es d = KeptStandsFor d.displays es (kept d)

-- it stands for a legal history with these effects: the same, and of a live channel only messages that were received were released
pub record StandsFor (es : List Effect) (d : Dispatching) : Type 0 where
  pub lawful : Lawful d.displays es
  pub rise : AllRise (past_of es)
  pub knows : Knows d.displays es (kept d)
  pub may_go : (c : ℕ) → 1 ≤ c → MayGo es c (channel_of d.channels c).gone

-- it is as after some history
abbrev pub IsOfHistory : Dispatching → Type 0
IsOfHistory d = (es : List Effect) × IsAfter es d
