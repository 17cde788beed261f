-- Proved facts about the window that a touch goes to.
use Rattle.std.specs.Prelude.{ℕ, ◌≡◌, List, []}
use Rattle.input_types.specs.Displays.{device_display}
use Rattle.input_types.specs.declared.axis.Pixel.{Pixel}
use Rattle.window_snapshot.specs.Hits.{touched}
use Rattle.routing_rules.specs.Choice.{chosen, is_holder}
use Rattle.routing_rules.specs.Scene.{which}
use Rattle.dispatch_history.specs.Effect.{Effect}
use Rattle.dispatch_history.specs.Step.{scene}
use Rattle.live_input.specs.WindowAt.{touched_on}

-- It is the window that the routing rules call touched, for each device of the display.
abbrev pub TouchedLaw : Type 0
TouchedLaw =
    (displays : List ℕ) (es : List Effect) (d : ℕ) (at : Pixel)
    → let s = scene displays es in
    touched s.windows (s.reach d) at.x at.y ≡ touched_on es (device_display displays d) at

-- While no window but a spy holds a pointer of the device, the rules choose it for the pointer that goes down there.
abbrev pub ChosenLaw : Type 0
ChosenLaw =
    (displays : List ℕ) (es : List Effect) (d : ℕ) (at : Pixel)
    → let s = scene displays es in
    which s (is_holder s d) ≡ [] → chosen s d at ≡ touched_on es (device_display displays d) at
