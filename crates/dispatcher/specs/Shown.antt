-- What is kept of the windows that are shown, and how a step changes it.
use Rattle.std.specs.Prelude.{◌≡◌, ◌≤◌, ℕ, List}
use Rattle.input_types.specs.declared.axis.Pixel.{Pixel}
use Rattle.window_snapshot.specs.declared.window.Window.{Window}
use Rattle.dispatch_calls.specs.declared.call.Call.{Call}
pub use Rattle.dispatcher.specs.DispatchRound.Outgoing.{origin_at}
use Rattle.dispatch_history.specs.History.{snapshot, windows_after, origin, origin_after}
use Rattle.dispatch_history.specs.Effect.{Effect, past_of}

-- the windows of the last snapshot, and the origins of the windows 1 to 64
pub record Shown : Type 0 where
  pub windows : List Window
  pub origins : List Pixel

-- it stands for the effects of a history
pub record ShownIs (es : List Effect) (k : Shown) : Type 0 where
  pub windows_are : k.windows ≡ snapshot (past_of es)
  pub origins_are : (w : ℕ) → 1 ≤ w → w ≤ 64 → origin_at k.origins w ≡ origin (past_of es) w

-- how a step changes it: a snapshot that lists a window gives its origin
pub record ShownGoes (call : Call) (k later : Shown) : Type 0 where
  pub windows_are : later.windows ≡ windows_after call k.windows
  pub origins_are : (w : ℕ) → 1 ≤ w → w ≤ 64 → origin_at later.origins w ≡ origin_after call w (origin_at k.origins w)
