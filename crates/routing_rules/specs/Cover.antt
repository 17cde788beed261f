-- What lies over a window where it is given a pointer, and the flags by which its owner knows.
use Rattle.std.specs.Prelude.{ℕ, Bool, false, not, ◌==◌, ◌&&◌, ◌||◌, if◌then◌else◌, bit_or, List, map, filter}
use Rattle.std.specs.List.{list_any}
use Rattle.input_types.specs.declared.motion.Motion.{Motion}
use Rattle.input_types.specs.declared.motion.MotionAction.{MotionAction}
use Rattle.input_types.specs.declared.motion.MotionAction.TheVariants.{Outside}
use Rattle.window_snapshot.specs.declared.window.Window.{Window}
use Rattle.window_snapshot.specs.Named.{is_named}
use Rattle.window_snapshot.specs.Occlusion.{in_front_of}

-- what lay over a window where it was given pointers: at one of them a window of another owner obscured it, and at one of
-- them none did, but one overlapped it
pub record Cover : Type 0 where
  pub obscured : Bool
  pub partly : Bool

-- a window of another owner stands in front of the window of a channel
abbrev pub is_behind_another : List Window → ℕ → Bool
is_behind_another windows c =
    is_named (filter (λ w. list_any (λ v. not (v.owner == w.owner)) (in_front_of windows w.channel)) windows) c

-- nothing
abbrev pub clear : Cover
clear = record { obscured = false; partly = false }

-- what lies over a window at one point: a window that obscures it there or, if none does, one that overlaps it
abbrev pub cover_of : (obscured overlapped : Bool) → Cover
cover_of o p = record { obscured = o; partly = not o && p }

-- what lay over it at either
abbrev pub both : Cover → Cover → Cover
both a b = record { obscured = a.obscured || b.obscured; partly = a.partly || b.partly }

-- FLAG_WINDOW_IS_OBSCURED of MotionEvent, 0x1, and FLAG_WINDOW_IS_PARTIALLY_OBSCURED, 0x2
abbrev pub flags_of : Cover → ℕ
flags_of c = bit_or (if c.obscured then 1 else 0) (if c.partly then 2 else 0)

-- the flags of a motion with those of a cover; a touch outside has none
abbrev pub flags_under : MotionAction → Cover → ℕ → ℕ
flags_under Outside c flags = flags
flags_under action c flags = bit_or flags (flags_of c)

-- a motion with other flags
abbrev pub with_flags : ℕ → Motion → Motion
with_flags flags m = record { device = m.device; action = m.action; index = m.index; flags = flags; pointers = m.pointers }

-- a motion that is sent to a window under a cover
abbrev pub under : Cover → Motion → Motion
under c m = with_flags (flags_under m.action c m.flags) m

-- motions that are sent to a window under the cover that it has for each device
abbrev pub under_all : (ℕ → Cover) → List Motion → List Motion
under_all cover ms = map (λ m. under (cover m.device) m) ms
