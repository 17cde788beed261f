-- A change of the focus.
use Rattle.std.specs.Prelude.{ℕ, ◌≡◌, Bool, not, ◌&&◌}
use Rattle.window_snapshot.specs.Mask.{mask_has}

-- the mask has exactly the channels that are in the first set and not in the second
abbrev pub IsOnlyIn : ℕ → (first second : ℕ → Bool) → Type 0
IsOnlyIn mask first second = (c : ℕ) → mask_has mask c ≡ (first c && not (second c))
