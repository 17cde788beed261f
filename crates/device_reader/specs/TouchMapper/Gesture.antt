-- What happened to the pointers of a device between two packets, as motions.
use Rattle.std.specs.Prelude.{ℕ, Bool, not, ◌&&◌, nat_eq, List, [], ◌∷◌, ◌++◌, length, map, filter, find, Option, Some, unwrap_or, if◌then◌else◌}
use Rattle.std.specs.List.{list_any}
use Rattle.std.specs.Option.{option_and_then}
use Rattle.std.specs.Ordering.{int_eq}
use Rattle.input_types.specs.declared.pointer.Pointer.{Pointer}
use Rattle.input_types.specs.declared.motion.Motion.{Motion}
use Rattle.input_types.specs.declared.motion.MotionAction.{MotionAction}
use Rattle.input_types.specs.declared.motion.MotionAction.TheVariants.{Down, Up, Move, Cancel, PointerDown, PointerUp}
use Rattle.input_types.specs.declared.message.Args.{Args}
use Rattle.input_types.specs.declared.message.Args.TheVariants.{Motion as MotionArgs}
use Rattle.input_types.specs.Gestures.{ids_of, same_ids, after_motion, flag_canceled}
use Rattle.device_reader.specs.declared.pointer_ids.assigned.Held.{Held}
use Rattle.bits32.specs.Set.{is_in}
use Rattle.device_reader.specs.PointerIds.Assigned.{Assignment}
use Rattle.device_reader.specs.TouchMapper.Cooking.{Cooking, pixel}
use Rattle.device_reader.specs.TouchMapper.GestureState.{GestureState}

-- a pointer at its pixel
abbrev pub placed : Cooking → Held → Pointer
placed c h = record { id = h.id; at = pixel c h.x h.y }

-- pointers at their pixels
abbrev pub placed_all : Cooking → List Held → List Pointer
placed_all c hs = map (λ h. placed c h) hs

-- the ids of pointers in the device's units, in their order
abbrev pub held_ids : List Held → List ℕ
held_ids hs = map (λ h. h.id) hs

-- a pointer with this id is down
abbrev pub is_down : ℕ → List Pointer → Bool
is_down i ps = list_any (λ p. nat_eq p.id i) ps

-- where a pointer is in a list, else where it was
abbrev pub moved : List Pointer → Pointer → Pointer
moved now p = unwrap_or (find (λ q. nat_eq q.id p.id) now) p

-- the pointers that were down before, those that still are at their new places
abbrev pub moved_all : List Pointer → List Pointer → List Pointer
moved_all last now = map (λ p. moved now p) last

-- those of the pointers that were down before too
abbrev pub kept : List Pointer → List Pointer → List Pointer
kept last now = filter (λ p. is_down p.id last) now

-- a pointer has another pixel in a list
abbrev pub is_moved : List Pointer → Pointer → Bool
is_moved now p = let q = moved now p in not (int_eq q.at.x p.at.x && int_eq q.at.y p.at.y)

-- a pointer of a list has another pixel in another list
abbrev pub is_changed : List Pointer → List Pointer → Bool
is_changed last now = list_any (λ p. is_moved now p) last

-- a motion of device `d`
abbrev pub motion : ℕ → MotionAction → ℕ → ℕ → List Pointer → Motion
motion d action index flags ps = record { device = d; action = action; index = index; flags = flags; pointers = ps }

-- The pointer at place `index` goes up. The last pointer is an Up, and a Cancel where it is cancelled; any other is a
-- PointerUp, which has the flag where it is cancelled.
abbrev pub up : ℕ → Bool → ℕ → List Pointer → Motion
up d cancelled index ps =
    if nat_eq (length ps) 1 then motion d (if cancelled then Cancel else Up) index 0 ps
    else motion d PointerUp index (if cancelled then flag_canceled else 0) ps

-- the pointer at place `index` has gone down: the first pointer is a Down
abbrev pub down : ℕ → ℕ → List Pointer → Motion
down d index ps = motion d (if nat_eq (length ps) 1 then Down else PointerDown) index 0 ps

-- The pointers that are gone go up in rising id. `below` are the pointers with lower ids that stay, and what follows
-- are the pointers with higher ids, which are all still down.
abbrev pub ups : ℕ → (ℕ → Bool) → List Pointer → List Pointer → List Pointer → List Motion
ups d cancelled now below [] = []
ups d cancelled now below (p ∷ above) =
    if is_down p.id now then ups d cancelled now (below ++ p ∷ []) above
    else up d (cancelled p.id) (length below) (below ++ p ∷ above) ∷ ups d cancelled now below above

-- The new pointers go down in rising id. `below` are the pointers with lower ids, which are all down by then; of those
-- with higher ids the ones are down that were down before.
abbrev pub downs : ℕ → List Pointer → List Pointer → List Pointer → List Motion
downs d last below [] = []
downs d last below (p ∷ above) =
    if is_down p.id last then downs d last (below ++ p ∷ []) above
    else down d (length below) (below ++ p ∷ kept last above) ∷ downs d last (below ++ p ∷ []) above

-- one Move, where a pointer that stays changed its pixel
abbrev pub moves : ℕ → List Pointer → List Pointer → List Motion
moves d last now = if is_changed last now then motion d Move 0 0 (kept last now) ∷ [] else []

-- a Move of all pointers that are down, where there are some
abbrev pub move_of : ℕ → List Pointer → List Motion
move_of d ps = if nat_eq (length ps) 0 then [] else motion d Move 0 0 ps ∷ []

-- The motions between two packets, where some of the ids that are gone are cancelled. Where the same pointers are down,
-- it is one Move, also if nothing moved, or nothing where none is down. Else the gone ones go up, at their last places,
-- while those that stay are at their new places; then comes the Move of those that stay; then the new ones go down.
abbrev pub gesture : ℕ → (ℕ → Bool) → List Pointer → List Pointer → List Motion
gesture d cancelled last now =
    if same_ids (ids_of last) (ids_of now) then move_of d now
    else ups d cancelled now [] (moved_all last now) ++ moves d last now ++ downs d last [] now

-- the motions that the next packet of a device makes, from its pointers and the ids that are cancelled in it
abbrev pub packet_motions : GestureState → Assignment → List Motion
packet_motions g a = gesture g.device (λ i. is_in i a.cancelled) g.last (placed_all g.cook a.pointers)

-- the gestures of a device after its next packet
abbrev pub after_packet : GestureState → Assignment → GestureState
after_packet g a = record { device = g.device; cook = g.cook; last = placed_all g.cook a.pointers }

-- the ids that are down after some motions, in their order; None where one of them might not come
abbrev pub after_motions : List ℕ → List Motion → Option (List ℕ)
after_motions ids [] = Some ids
after_motions ids (m ∷ ms) = option_and_then (λ next. after_motions next ms) (after_motion ids m)

-- motions as the dispatcher takes them
abbrev pub as_args : List Motion → List Args
as_args ms = map (λ m. MotionArgs m) ms
