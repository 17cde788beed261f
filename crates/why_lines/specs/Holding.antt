-- Which window holds keys.
use Rattle.std.specs.Prelude.{◌≡◌, ℕ, Bool, true, false, ◌==◌, List, [], map, Option, Some, None, if◌then◌else◌}
use Rattle.window_snapshot.specs.Mask.{is_channel}
use Rattle.dispatch_history.specs.Effect.{Effect}
use Rattle.dispatch_history.specs.Keys.{keys}
use Rattle.why_lines.specs.declared.holders.KeyHolder.{KeyHolder}

-- it is the window of a channel, these are the keys that it holds, and no other window holds one
pub record OnlyHolds (es : List Effect) (h : KeyHolder) : Type 0 where
  pub number : is_channel h.window ≡ true
  pub keys_are : map (λ m. m.key) h.keys.now ≡ keys es h.window
  pub others : (w : ℕ) → (w == h.window) ≡ false → keys es w ≡ []

-- no window holds keys except this one, if there is one
abbrev pub HoldKeys : List Effect → Option KeyHolder → Type 0
HoldKeys es None = (w : ℕ) → keys es w ≡ []
HoldKeys es (Some h) = OnlyHolds es h

-- a window that passes the test
abbrev pub if_able : (ℕ → Bool) → Option ℕ → Option ℕ
if_able able None = None
if_able able (Some w) = if able w then Some w else None
