-- Raw positions as display pixels.
use Rattle.std.specs.Prelude.{ℕ, ◌+◌, ◌-◌, ◌*◌, ◌/◌, ◌≤◌, Bool, ◌&&◌, ℤ, pos, ◌-ℤ◌, ◌≤ℤ◌, unsigned_abs, int_le, nat_le}
use Rattle.std.specs.Int.{int_max, int_min}
use Rattle.input_types.specs.declared.axis.Axis.{Axis}
use Rattle.input_types.specs.declared.axis.Rotation.{Rotation}
use Rattle.input_types.specs.declared.axis.Rotation.TheVariants.{R0, R90, R180, R270}
use Rattle.input_types.specs.declared.axis.Pixel.{Pixel}

-- the axes of a device, the extent of its display in its natural position, and how far that is turned
pub record Cooking : Type 0 where
  pub x : Axis
  pub y : Axis
  pub width : ℕ
  pub height : ℕ
  pub rotation : Rotation

-- the axes have a position and the display has pixels, up to 16,384 each way
abbrev pub can_cook : Axis → Axis → ℕ → ℕ → Bool
can_cook x y width height =
    int_le x.min x.max && int_le y.min y.max && (nat_le 1 width && nat_le width 16384) && (nat_le 1 height && nat_le height 16384)

-- the same as facts
pub record CanCook (x y : Axis) (width height : ℕ) : Type 0 where
  pub x_has : x.min ≤ℤ x.max
  pub y_has : y.min ≤ℤ y.max
  pub some_width : 1 ≤ width
  pub max_width : width ≤ 16384
  pub some_height : 1 ≤ height
  pub max_height : height ≤ 16384

-- how far a position is above the least one
abbrev pub above : ℤ → ℤ → ℕ
above least z = unsigned_abs (z -ℤ least)

-- the nearest position of an axis
abbrev pub clamped : Axis → ℤ → ℤ
clamped axis raw = int_max axis.min (int_min raw axis.max)

-- the pixel of a raw position along an axis: the axis is cut into as many equal parts as there are pixels
abbrev pub natural : Axis → ℕ → ℤ → ℕ
natural axis extent raw = above axis.min (clamped axis raw) * extent / (above axis.min axis.max + 1)

-- the pixel of a display that is turned, from that of its natural position and its natural extent
abbrev pub turned : Rotation → ℕ → ℕ → ℕ → ℕ → Pixel
turned R0 width height x y = record { x = pos x; y = pos y }
turned R90 width height x y = record { x = pos y; y = pos (width - 1 - x) }
turned R180 width height x y = record { x = pos (width - 1 - x); y = pos (height - 1 - y) }
turned R270 width height x y = record { x = pos (height - 1 - y); y = pos x }

-- the display pixel of a raw position
abbrev pub pixel : Cooking → ℤ → ℤ → Pixel
pixel c x y = turned c.rotation c.width c.height (natural c.x c.width x) (natural c.y c.height y)
