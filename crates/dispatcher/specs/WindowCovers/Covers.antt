-- What lay over the windows, as masks of windows for each device.
use Rattle.std.specs.Prelude.{ℕ, ◌-◌, ◌≡◌, Bool, false, not, ◌==◌, ◌&&◌, ◌||◌, if◌then◌else◌, List, slice_index_or, Option, Some, None}
use Rattle.input_types.specs.declared.axis.Pixel.{Pixel}
use Rattle.input_types.specs.declared.motion.Motion.{Motion}
use Rattle.input_types.specs.declared.pointer.Pointer.{Pointer}
use Rattle.window_snapshot.specs.Mask.{mask_has}
use Rattle.routing_rules.specs.Cover.{Cover}
use Rattle.routing_rules.specs.Given.{changed, cover_at}
use Rattle.routing_rules.specs.Scene.{Scene}
use Rattle.route_split.specs.declared.mark.Mark.{Mark}
use Rattle.route_split.specs.Marking.{is_given_some}
use Rattle.route_split.specs.Tables.{is_device}
use Rattle.dispatcher.specs.declared.window_covers.gift.Gift.{Gift}

-- the windows that were obscured, and those that were partly, of each device, starting with device 1
pub record CoverTable : Type 0 where
  pub obscured : List ℕ
  pub partly : List ℕ

-- the mask of a device
abbrev pub mask_of : List ℕ → ℕ → ℕ
mask_of masks d = if is_device d then slice_index_or masks (d - 1) 0 else 0

-- what lay over a window for a device
abbrev pub cover_in : CoverTable → ℕ → ℕ → Cover
cover_in t w d = record { obscured = mask_has (mask_of t.obscured d) w; partly = mask_has (mask_of t.partly d) w }

-- what a gift finds over a window
abbrev pub found_over : Gift → ℕ → Cover
found_over g w = record { obscured = mask_has g.obscured w; partly = mask_has g.partly w }

-- it is what lies over the windows that are given something, in a scene, at a place
abbrev pub IsFound : Scene → Pixel → Gift → Type 0
IsFound s at g =
    (w : ℕ)
    → found_over g w
    ≡ record {
      obscured = mask_has g.windows w && (cover_at s g.device at w).obscured;
      partly = mask_has g.windows w && (cover_at s g.device at w).partly;
    }

-- where the pointer of a motion is, if it has one
abbrev pub option_at : Option Pointer → Option Pixel
option_at None = None
option_at (Some p) = Some p.at

-- it is the gift of a motion with this mark: there is none exactly if no window is given anything
abbrev pub IsGiftOf : Scene → Mark → Motion → Option Gift → Type 0
IsGiftOf s k m None = (p : Pixel) (w : ℕ) → option_at (changed m) ≡ Some p → is_given_some k w m.device ≡ false
IsGiftOf s k m (Some g) =
    (g.device ≡ m.device)
    × ((w : ℕ) → is_given_some k w m.device ≡ mask_has g.windows w)
    × (at : Pixel)
    × (option_at (changed m) ≡ Some at)
    × IsFound s at g

-- a bit of a mask after a gift: it is found, or it was there and the window is not given its first pointer
abbrev pub bit_after : (given held found was : Bool) → Bool
bit_after given held found was = found || (was && not (given && not held))

-- The masks after a gift, while windows of the mask `held` hold something of its device before.
pub record Gives (old new : CoverTable) (g : Gift) (held : ℕ) : Type 0 where
  pub obscured_are :
      (w d : ℕ)
      → mask_has (mask_of new.obscured d) w
      ≡ (if d == g.device then bit_after (mask_has g.windows w) (mask_has held w) (mask_has g.obscured w) (mask_has (mask_of old.obscured d) w)
      else mask_has (mask_of old.obscured d) w)
  pub partly_are :
      (w d : ℕ)
      → mask_has (mask_of new.partly d) w
      ≡ (if d == g.device then bit_after (mask_has g.windows w) (mask_has held w) (mask_has g.partly w) (mask_has (mask_of old.partly d) w)
      else mask_has (mask_of old.partly d) w)
