-- What is still down in a window's stream: its pointers at their last positions, and its keys.
use Rattle.std.specs.Prelude.{ℕ, ◌-◌, ◌==◌, ◌&&◌, ◌||◌, nat_lt, nat_le, max, not, Bool, ◌≡◌, ◌+◌, ◌≤◌, List, [], ◌∷◌, filter, length, suc, slice_index_or, Option, Some, None, if◌then◌else◌}
use Rattle.input_types.specs.declared.key.KeyArgs.{KeyArgs}
use Rattle.input_types.specs.declared.key.KeyMsg.{KeyMsg}
use Rattle.input_types.specs.declared.message.Body.{Body}
use Rattle.input_types.specs.declared.message.Body.TheVariants.{Motion as MotionBody, Key}
use Rattle.input_types.specs.declared.motion.Motion.{Motion}
use Rattle.input_types.specs.declared.motion.MotionAction.{MotionAction}
use Rattle.input_types.specs.declared.motion.MotionAction.TheVariants.{Down, Up, Move, Cancel, Outside, PointerDown, PointerUp}
use Rattle.input_types.specs.declared.pointer.Pointer.{Pointer}
use Rattle.routing_rules.specs.Given.{changed}

-- what is kept of a window: the pointers of each device, starting with device 1; the keys that are down, in rising
-- order, each with its last message; and for how many messages there is room
pub record Tracked : Type 0 where
  pub pointers : List (List Pointer)
  pub keys : List KeyMsg
  pub spare : ℕ

-- devices have the numbers 1 to 8
abbrev pub is_device : ℕ → Bool
is_device d = nat_le 1 d && nat_le d 8

-- the pointers of a device, from a table with those of each device
abbrev pub pointers_in : List (List Pointer) → ℕ → List Pointer
pointers_in table d = if is_device d then slice_index_or table (d - 1) [] else []

-- the same of what is kept
abbrev pub pointers_of : Tracked → ℕ → List Pointer
pointers_of t d = pointers_in t.pointers d

-- the pointers of a list without one of them
abbrev pub without : Option Pointer → List Pointer → List Pointer
without None ps = ps
without (Some p) ps = filter (λ q. not (q.id == p.id)) ps

-- the pointers of a device after a motion of it: those that it lists, except one that goes up
abbrev pub pointers_after : Motion → MotionAction → List Pointer → List Pointer
pointers_after m Down before = m.pointers
pointers_after m PointerDown before = m.pointers
pointers_after m Move before = m.pointers
pointers_after m PointerUp before = without (changed m) m.pointers
pointers_after m Up before = []
pointers_after m Cancel before = []
pointers_after m Outside before = before

-- the pointers of device d after a body
abbrev pub pointers_then : Body → ℕ → List Pointer → List Pointer
pointers_then (MotionBody m) d before = if m.device == d then pointers_after m m.action before else before
pointers_then body d before = before

-- the same scan code of the same device
abbrev pub same_key : KeyArgs → KeyArgs → Bool
same_key k l = k.device == l.device && k.scan == l.scan

-- the order of keys: by device, and then by scan code
abbrev pub is_before : KeyArgs → KeyArgs → Bool
is_before k l = nat_lt k.device l.device || k.device == l.device && nat_lt k.scan l.scan

-- how many keys come before a key
abbrev pub keys_before : KeyArgs → List KeyMsg → ℕ
keys_before k [] = 0
keys_before k (l ∷ ls) = if is_before l.key k then suc (keys_before k ls) else 0

-- the key is at an index
abbrev pub is_at : KeyArgs → List KeyMsg → ℕ → KeyMsg → Bool
is_at k ls place d = nat_lt place (length ls) && same_key (slice_index_or ls place d).key k

-- a key message inserted in its place, replacing an earlier message of the key
abbrev pub with_key : KeyMsg → List KeyMsg → List KeyMsg
with_key m [] = m ∷ []
with_key m (l ∷ ls) =
    if is_before l.key m.key then l ∷ with_key m ls
    else if same_key l.key m.key then m ∷ ls else m ∷ l ∷ ls

-- the messages of the other keys
abbrev pub without_key : KeyMsg → List KeyMsg → List KeyMsg
without_key m ls = filter (λ l. not (same_key m.key l.key)) ls

-- the keys after a key message
abbrev pub keys_after : KeyMsg → List KeyMsg → List KeyMsg
keys_after m ls = if m.key.down then with_key m ls else without_key m ls

-- the keys after a body
abbrev pub keys_then : Body → List KeyMsg → List KeyMsg
keys_then (Key m) before = keys_after m before
keys_then body before = before

-- what is kept after one body more
pub record Tracks (old new : Tracked) (body : Body) : Type 0 where
  pub pointers_are : (d : ℕ) → pointers_of new d ≡ pointers_then body d (pointers_of old d)
  pub keys_are : new.keys ≡ keys_then body old.keys
  pub spare_is : new.spare ≡ old.spare - 1

-- a list of this length in a block of this capacity has room for so many more
abbrev pub HasRoom : (len capacity spare : ℕ) → Type 0
HasRoom len capacity spare = len + spare ≤ capacity

-- room for at least so many messages
abbrev pub with_spare : ℕ → Tracked → Tracked
with_spare n t = record { pointers = t.pointers; keys = t.keys; spare = max n t.spare }
