-- Whose window a touch goes to.
use Rattle.std.specs.Prelude.{ℕ, ◌==◌, Bool, not, ◌&&◌, ◌||◌, List, Option}
use Rattle.input_types.specs.declared.axis.Pixel.{Pixel}
use Rattle.window_snapshot.specs.Hits.{touched}
use Rattle.window_snapshot.specs.Walls.{wall_on}
use Rattle.dispatch_history.specs.Effect.{Effect, past_of}
use Rattle.dispatch_history.specs.History.{is_on, live, snapshot}
use Rattle.live_input.specs.declared.client.Client.{Client}
use Rattle.live_input.specs.declared.client.Seat.{Seat}
use Rattle.live_input.specs.Asking.{client_of_some}

-- a touch on a display can reach the channels that are live and have a window there, and the walls there, whose number is
-- no live channel's
abbrev pub reach_on : List Effect → (display : ℕ) → ℕ → Bool
reach_on es y c = is_on (past_of es) y c || (not (live (past_of es) c) && c == wall_on y)

-- the channel of the touched window at a pixel of a display, or the number of its walls
abbrev pub touched_on : List Effect → (display : ℕ) → Pixel → Option ℕ
touched_on es y at = touched (snapshot (past_of es)) (reach_on es y) at.x at.y

-- the client of that window; there is none if no window is touched, or a wall is
abbrev pub window_at : List Seat → List Effect → (display : ℕ) → Pixel → Option Client
window_at seats es y at = client_of_some seats (touched_on es y at)
