-- Which display each device belongs to.
use Rattle.std.specs.Prelude.{ℕ, ◌-◌, List, slice_index_or}

-- the display of a device, from those of the devices 1 to 8 in order
abbrev pub device_display : List ℕ → ℕ → ℕ
device_display displays device = slice_index_or displays (device - 1) 0
