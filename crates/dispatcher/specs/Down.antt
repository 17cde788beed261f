-- Which keys are down on a device.
use Rattle.std.specs.Prelude.{◌≡◌, ◌≤◌, ◌<◌, ◌^◌, ℕ, Bool, true, false, Option, Some, None}

-- The first of these keys whose scan code is at least this one: no key before it, from that code on, is down. None if
-- none from there on is down. A scan code has 16 bits.
abbrev pub IsFirstDown : (ℕ → Bool) → (from : ℕ) → Option ℕ → Type 0
IsFirstDown keys from None = (s : ℕ) → from ≤ s → s < 2 ^ 16 → keys s ≡ false
IsFirstDown keys from (Some scan) =
    (from ≤ scan) × (scan < 2 ^ 16) × (keys scan ≡ true) × ((s : ℕ) → from ≤ s → s < scan → keys s ≡ false)
