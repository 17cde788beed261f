-- What is kept, as it is made of the tables of the code.
use Rattle.std.specs.Prelude.{List, Option}
use Rattle.touch_state.specs.Touches.{Touches}
use Rattle.focus_resolver.specs.Resolver.{FocusState}
use Rattle.key_repeat.specs.Due.{Sent}
use Rattle.dispatcher.specs.DispatchChannels.Table.{Table, input_of}
use Rattle.dispatcher.specs.WindowCovers.Covers.{CoverTable}
use Rattle.dispatcher.specs.Queue.{Queue}
use Rattle.dispatcher.specs.Shown.{Shown}
use Rattle.dispatcher.specs.Knows.{Kept}
use Rattle.dispatcher.specs.Staying.{delivery_of}

-- all that is kept, with the room that the channels have
abbrev pub kept_of : Queue → Shown → List Touches → CoverTable → Table → FocusState → Option Sent → Kept
kept_of queue shown touches covers channels focus repeat =
    record {
      queue = queue;
      shown = shown;
      touches = touches;
      covers = covers;
      delivery = delivery_of channels;
      inputs = input_of channels;
      focus = focus;
      repeat = repeat;
    }
