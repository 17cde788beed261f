-- Numbers as C hands them in and gets them.
use Rattle.std.specs.Prelude.{ℕ, ◌^◌, ◌&&◌, nat_le, Bool, List, [], ◌∷◌, slice_get, Option, Some, None, if◌then◌else◌}
use Rattle.gesture_verifier.specs.Told.{is_device}
use Rattle.window_snapshot.specs.declared.occlusion.Occlusion.{Occlusion}
use Rattle.window_snapshot.specs.declared.occlusion.Occlusion.TheVariants.{Block, Opacity, Allow}

-- a time in microseconds: at most 10^18
abbrev pub moment_of : ℕ → Option ℕ
moment_of us = if nat_le us (10 ^ 18) then Some us else None

-- the number of a device: 1 to 8
abbrev pub device_of : ℕ → Option ℕ
device_of n = if is_device n then Some n else None

-- the number of a display: 0 to 3
abbrev pub display_of : ℕ → Option ℕ
display_of n = if nat_le n 3 then Some n else None

-- a share in per cent: 0 to 100
abbrev pub percent_of : ℕ → Option ℕ
percent_of n = if nat_le n 100 then Some n else None

-- Whether a touch may go through a window, by a number: 0 if not, 1 if its opacity decides, and 2 if so.
abbrev pub occlusions : List Occlusion
occlusions = Block ∷ Opacity ∷ Allow ∷ []

-- the occlusion of a number, if it has one
abbrev pub occlusion_of : ℕ → Option Occlusion
occlusion_of n = slice_get occlusions n

-- how long a client may leave a message unfinished, in microseconds: a millisecond to ten minutes
abbrev pub limit_of : ℕ → Option ℕ
limit_of us = if nat_le 1000 us && nat_le us 600000000 then Some us else None

-- 1 for true, and 0 for false
abbrev pub flag : Bool → ℕ
flag b = if b then 1 else 0
