-- What a step gives, and what it takes.
use Rattle.std.specs.Prelude.{ℕ, not, ◌==◌, List, [], ◌∷◌, map, Option, Some, None, slice_get}
use Rattle.input_types.specs.declared.axis.Pixel.{Pixel}
use Rattle.input_types.specs.declared.motion.Motion.{Motion}
use Rattle.input_types.specs.declared.motion.MotionAction.{MotionAction}
use Rattle.input_types.specs.declared.motion.MotionAction.TheVariants.{Down, Up, Move, Cancel, PointerDown, PointerUp}
use Rattle.input_types.specs.declared.pointer.Pointer.{Pointer}
use Rattle.window_snapshot.specs.Occlusion.{is_obscured_at, is_overlapped_on}
use Rattle.routing_rules.specs.Pairs.{Pair}
use Rattle.routing_rules.specs.Taking.{Taking, Nothing, Lifted, Emptied, Slipped, Pilfered, Dropped}
use Rattle.routing_rules.specs.Cover.{Cover, clear, cover_of}
use Rattle.routing_rules.specs.Marks.{Mark}
use Rattle.routing_rules.specs.Scene.{Scene, Step, Moves, Resets, Pilfers, Shows, Mutes, Removes, NoOp}
use Rattle.routing_rules.specs.Choice.{takers}
use Rattle.routing_rules.specs.Slip.{Slip, slip}

-- the pointer that goes down or up with a motion; for a move, the first one
abbrev pub changed : Motion → Option Pointer
changed m = slice_get m.pointers m.index

-- the pairs of these windows with one pointer
abbrev pub pairs : ℕ → ℕ → List ℕ → List Pair
pairs d i ws = map (λ w. record { window = w; device = d; id = i }) ws

-- a pointer that slips is given to the window that it slips to, and taken from the other
abbrev pub slips_in : ℕ → ℕ → Option Slip → List Pair
slips_in d i None = []
slips_in d i (Some x) = record { window = x.to; device = d; id = i } ∷ []

-- and it is taken from the other
abbrev pub slips_out : ℕ → ℕ → Option Slip → Taking
slips_out d i None = Nothing
slips_out d i (Some x) = Slipped x.from d i

-- what a motion gives of its changed pointer: a down to its takers, and a move if it slips
abbrev pub given_by : Scene → Motion → MotionAction → Option Pointer → List Pair
given_by s m Down (Some p) = pairs m.device p.id (takers s m.device p.at)
given_by s m PointerDown (Some p) = pairs m.device p.id (takers s m.device p.at)
given_by s m Move (Some p) = slips_in m.device p.id (slip s m)
given_by s m _ _ = []

-- what it takes of it: an up takes it from all, even if a device cancels its last pointer, and a move if it slips
abbrev pub taken_by : Scene → Motion → MotionAction → Option Pointer → Taking
taken_by s m Up (Some p) = Lifted m.device p.id
taken_by s m PointerUp (Some p) = Lifted m.device p.id
taken_by s m Cancel (Some p) = Lifted m.device p.id
taken_by s m Move (Some p) = slips_out m.device p.id (slip s m)
taken_by s m _ _ = Nothing

-- what a step gives to windows; only motions give anything
abbrev pub given : Scene → Step → List Pair
given s (Moves m) = given_by s m m.action (changed m)
given s _ = []

-- what a step takes from windows: a reset takes everything of its device; a pilfer takes what the spy holds from all
-- other windows; a snapshot takes everything from windows that do not stay; a step that mutes or removes a window
-- takes everything from it
abbrev pub taken : Scene → Step → Taking
taken s (Moves m) = taken_by s m m.action (changed m)
taken s (Resets d) = Emptied d
taken s (Pilfers w d) = Pilfered w d (s.holds w d)
taken s (Shows stays) = Dropped (λ w. not (stays w))
taken s (Mutes muted) = Dropped muted
taken s (Removes w) = Dropped (λ v. v == w)
taken s NoOp = Nothing

-- what lies over a window at a point of the display of a device
abbrev pub cover_at : Scene → ℕ → Pixel → ℕ → Cover
cover_at s d at w =
    cover_of (is_obscured_at s.windows (s.reach d) at.x at.y w) (is_overlapped_on s.windows (s.reach d) w)

-- what lies over it at a pointer, if there is one
abbrev pub cover_by : Scene → ℕ → Option Pointer → ℕ → Cover
cover_by s d None w = clear
cover_by s d (Some p) w = cover_at s d p.at w

-- what lies over it at the pointer that a step gives
abbrev pub cover : Scene → Step → ℕ → Cover
cover s (Moves m) w = cover_by s m.device (changed m) w
cover s e w = clear

-- all together are the mark that the step leaves
abbrev pub mark : Scene → Step → Mark
mark s e = record { given = given s e; taken = taken s e; cover = cover s e }
