-- In what an actual point differs from the expected one: the first of these that it does. Distances are those of the
-- actual point from the expected one.
use Rattle.std.specs.Prelude.{ℕ, not, nat_eq, pos, ◌-ℤ◌, Bool, List, [], ◌∷◌, Option, Some, None, if◌then◌else◌}
use Rattle.std.specs.Option.{option_or}
use Rattle.input_types.specs.declared.axis.Pixel.{Pixel}
use Rattle.input_types.specs.declared.key.KeyMsg.{KeyMsg}
use Rattle.input_types.specs.declared.message.Body.{Body}
use Rattle.input_types.specs.declared.message.Body.TheVariants.{Motion as MotionBody, Key as KeyBody, Focus as FocusBody}
use Rattle.input_types.specs.declared.message.Message.{Message}
use Rattle.input_types.specs.declared.motion.Motion.{Motion}
use Rattle.input_types.specs.declared.pointer.Pointer.{Pointer}
use Rattle.input_types.specs.Action.{action_number}
use Rattle.input_types.specs.Gestures.{differ}
use Rattle.compare_text.specs.declared.difference.Difference.{Difference}
use Rattle.compare_text.specs.declared.difference.Difference.TheVariants.{Kind, Device, Action, Index, Flags, Pointers, Place, Scan, Code, Meta, Direction, Repeat, Focus, Time}
use Rattle.compare_text.specs.Agreement.{close_by, near, same_ids}

-- a difference unless something is the same, and then the further ones
abbrev pub unless : Bool → Difference → Option Difference → Option Difference
unless same difference further = if same then further else Some difference

-- how far a place is from the expected one
abbrev pub moved : (want got : Pixel) → Difference
moved want got = Place (got.x -ℤ want.x) (got.y -ℤ want.y)

-- the first pointer that is too far, in the order of their ids
abbrev pub place_apart : ℕ → (want got : List Pointer) → Option Difference
place_apart pixels (p ∷ ps) (q ∷ qs) = if close_by pixels p.at q.at then place_apart pixels ps qs else Some (moved p.at q.at)
place_apart pixels _ _ = None

-- of two motions
abbrev pub motion_apart : ℕ → (want got : Motion) → Option Difference
motion_apart pixels a b =
    unless (nat_eq a.device b.device) Device
    (unless (nat_eq (action_number a.action) (action_number b.action)) Action
    (unless (nat_eq a.index b.index) Index
    (unless (nat_eq a.flags b.flags) Flags (unless (same_ids a.pointers b.pointers) Pointers (place_apart pixels a.pointers b.pointers)))))

-- of two key messages
abbrev pub key_apart : (want got : KeyMsg) → Option Difference
key_apart a b =
    unless (nat_eq a.key.device b.key.device) Device
    (unless (nat_eq a.key.scan b.key.scan) Scan
    (unless (nat_eq a.key.code b.key.code) Code
    (unless (nat_eq a.key.meta b.key.meta) Meta
    (unless (not (differ a.key.down b.key.down)) Direction (unless (nat_eq a.flags b.flags) Flags (unless (nat_eq a.repeat b.repeat) Repeat None))))))

-- of what two messages say
abbrev pub body_apart : ℕ → (want got : Body) → Option Difference
body_apart pixels (MotionBody a) (MotionBody b) = motion_apart pixels a b
body_apart pixels (KeyBody a) (KeyBody b) = key_apart a b
body_apart pixels (FocusBody a) (FocusBody b) = unless (not (differ a b)) Focus None
body_apart pixels _ _ = Some Kind

-- of two moments
abbrev pub time_apart : ℕ → (want got : ℕ) → Option Difference
time_apart us a b = unless (near us a b) (Time (pos b -ℤ pos a)) None

-- of two points
abbrev pub difference_of : (us pixels : ℕ) → (want got : Message) → Option Difference
difference_of us pixels a b = option_or (body_apart pixels a.body b.body) (time_apart us a.moment b.moment)
