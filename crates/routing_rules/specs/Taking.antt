-- What a step takes away.
use Rattle.std.specs.Prelude.{ℕ, Bool, false, not, ◌==◌, ◌&&◌}

-- each of the ways in which a step takes pointers from windows
pub data Taking : Type 0 where
  -- takes nothing
  Nothing : Taking
  -- takes one pointer of a device from all windows
  Lifted : (device id : ℕ) → Taking
  -- takes all pointers of a device from all windows
  Emptied : (device : ℕ) → Taking
  -- takes one pointer of a device from one window
  Slipped : (window device id : ℕ) → Taking
  -- takes these pointers of a device from all windows but one, which pilfers them
  Pilfered : (window device : ℕ) (ids : ℕ → Bool) → Taking
  -- takes all pointers from these windows
  Dropped : (windows : ℕ → Bool) → Taking

-- whether the pair of window w, device d and id i is taken
abbrev pub takes : Taking → ℕ → ℕ → ℕ → Bool
takes Nothing w d i = false
takes (Lifted device id) w d i = d == device && i == id
takes (Emptied device) w d i = d == device
takes (Slipped window device id) w d i = w == window && d == device && i == id
takes (Pilfered window device ids) w d i = not (w == window) && d == device && ids i
takes (Dropped windows) w d i = windows w

-- whether it is window w that pilfers device d
abbrev pub pilfers : Taking → ℕ → ℕ → Bool
pilfers (Pilfered window device ids) w d = w == window && d == device
pilfers _ w d = false
