-- The ids of the pointers that a window holds, as a row of sets: one for each device, that of device 1 first.
use Rattle.std.specs.Prelude.{◌≡◌, ◌<◌, ◌+◌, ℕ, Bool, List, slice_index_or}
use Rattle.bits32.specs.Set.{is_in}

-- the ids of each device in the row are those that pass a test
abbrev pub RowIs : (ℕ → ℕ → Bool) → List ℕ → Type 0
RowIs test row = (d i : ℕ) → d < 8 → is_in i (slice_index_or row d 0) ≡ test (d + 1) i
