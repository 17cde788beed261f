-- What windows hold before a step, and a step that gives no keys.
use Rattle.std.specs.Prelude.{◌≡◌, ◌<◌, ◌+◌, ℕ, false, List, [], None, slice_index_or, if◌then◌else◌}
use Rattle.input_types.specs.declared.key.KeyArgs.{KeyArgs}
use Rattle.focus_resolver.specs.Resolver.{is_at}
use Rattle.dispatch_history.specs.Delivery.{reports}
use Rattle.dispatch_history.specs.Effect.{Effect}
use Rattle.dispatch_history.specs.Keys.{keys}
use Rattle.why_text.specs.Lost.{holds}
use Rattle.why_lines.specs.Rows.{RowIs}
use Rattle.why_lines.specs.declared.snapshots.Held.{Held}

-- the keys that the window holds: those held by the window that keys go to, if it is that one
abbrev pub held_keys : Held → ℕ → List KeyArgs
held_keys h w = if is_at h.target w then h.keys.now else []

-- after these steps windows hold this
pub record HoldThis (es : List Effect) (h : Held) : Type 0 where
  pub rows_are : (k : ℕ) → k < 64 → RowIs (holds es (k + 1)) (slice_index_or h.rows.now k [])
  pub keys_are : (w : ℕ) → held_keys h w ≡ keys es w

-- the step dispatches no args, and reports no window unresponsive
pub record IsQuiet (x : Effect) : Type 0 where
  pub no_args : x.args ≡ None
  pub unnamed : (w : ℕ) → reports x.past w ≡ false
