-- Whose window a touch goes to, in terms of the service.
use Rattle.std.specs.Prelude.{◌≡◌, ℕ, List, Option}
use Rattle.input_types.specs.declared.axis.Pixel.{Pixel}
use Rattle.dispatch_history.specs.Effect.{Effect}
use Rattle.live_input.specs.declared.client.Client.{Client}
use Rattle.live_input.specs.Standing.{LiveIs}
use Rattle.live_input.specs.State.{LiveState}
use Rattle.live_input.specs.WindowAt.{window_at}

-- the client whose window a touch at a pixel of a display goes to
abbrev pub IsTouched : LiveState → (display : ℕ) → Pixel → Option Client → Type 0
IsTouched s y at r = (ds : List ℕ) (es : List Effect) → LiveIs ds es s → r ≡ window_at s.seats es y at
