-- Runs worked out from their messages.
use Rattle.std.specs.Prelude.{ℕ, ◌≡◌, pos, List, [], ◌∷◌, ◌++◌, map, replicate, true, refl}
use Rattle.input_types.specs.declared.message.Body.TheVariants.{Motion, Focus}
use Rattle.input_types.specs.declared.message.Message.{Message}
use Rattle.input_types.specs.declared.motion.MotionAction.{MotionAction}
use Rattle.input_types.specs.declared.motion.MotionAction.TheVariants.{Down, Up, Move, PointerDown}
use Rattle.input_types.specs.declared.pointer.Pointer.{Pointer}
use Rattle.motion_batch.specs.declared.item.Item.{Item}
use Rattle.motion_batch.specs.declared.item.Item.TheVariants.{One, Batch}
use Rattle.motion_batch.specs.declared.sample.Sample.{Sample}
use Rattle.motion_batch.specs.Calls.{Call, flushed, framed, items, pending, taken}
use Rattle.motion_batch.specs.Pairs.{groups_of, marks}
use Rattle.motion_batch.specs.Rule.{added_by, kept_after}

-- the finger with an id
abbrev pub finger : ℕ → Pointer
finger id = record { id = id; at = record { x = pos 7; y = pos 9 } }

-- a motion of some fingers on a device
abbrev pub motion : ℕ → ℕ → ℕ → MotionAction → ℕ → List ℕ → Message
motion seq moment device action index ids =
    record { seq = seq; moment = moment; body = Motion (record { device = device; action = action; index = index; flags = 0; pointers = map finger ids }) }

-- a sample of some fingers, and a batch
abbrev pub sample : ℕ → ℕ → List ℕ → Sample
sample seq moment ids = record { seq = seq; moment = moment; pointers = map finger ids }

abbrev pub batch : ℕ → List Sample → Item
batch device samples = Batch (record { device = device; samples = samples })

-- one finger, and a frame between the moves
abbrev pub finger_down : Message
finger_down = motion 1 1000 1 Down 0 (0 ∷ [])

abbrev pub finger_moves : ℕ → ℕ → Message
finger_moves seq moment = motion seq moment 1 Move 0 (0 ∷ [])

abbrev pub finger_up : Message
finger_up = motion 5 9500 1 Up 0 (0 ∷ [])

abbrev pub one_frame : List Call
one_frame =
    taken finger_up ∷ taken (finger_moves 4 9000) ∷ framed 8000 ∷ taken (finger_moves 3 3000) ∷ taken (finger_moves 2 2000) ∷ taken finger_down ∷ []

pub one_frame_items
    : items one_frame
    ≡ One finger_down ∷ batch 1 (sample 2 2000 (0 ∷ []) ∷ sample 3 3000 (0 ∷ []) ∷ []) ∷ batch 1 (sample 4 9000 (0 ∷ []) ∷ []) ∷ One finger_up ∷ []
one_frame_items = refl

pub one_frame_groups
    : groups_of (marks 1 one_frame)
    ≡ (finger_up ∷ []) ∷ (finger_moves 4 9000 ∷ []) ∷ (finger_moves 2 2000 ∷ finger_moves 3 3000 ∷ []) ∷ (finger_down ∷ []) ∷ []
one_frame_groups = refl

-- a second finger goes down between two moves
pub second_finger
    : items
    (flushed ∷ taken (motion 4 1300 1 Move 0 (0 ∷ 1 ∷ [])) ∷ taken (motion 3 1200 1 PointerDown 1 (0 ∷ 1 ∷ [])) ∷ taken (finger_moves 2 1100) ∷ taken finger_down ∷ [])
    ≡ One finger_down ∷ batch 1 (sample 2 1100 (0 ∷ []) ∷ []) ∷ One (motion 3 1200 1 PointerDown 1 (0 ∷ 1 ∷ [])) ∷ batch 1 (sample 4 1300 (0 ∷ 1 ∷ []) ∷ []) ∷ []
second_finger = refl

-- moves of other fingers are no one batch, also without a message between them
pub other_fingers
    : items (flushed ∷ taken (motion 2 1100 1 Move 0 (0 ∷ 1 ∷ [])) ∷ taken (motion 1 1000 1 Move 0 (0 ∷ [])) ∷ [])
    ≡ batch 1 (sample 1 1000 (0 ∷ []) ∷ []) ∷ batch 1 (sample 2 1100 (0 ∷ 1 ∷ []) ∷ []) ∷ []
other_fingers = refl

-- a frame at the moment of the second of two moves gives out both, and one before that move was taken parts them
pub own_moment
    : items (framed 3000 ∷ taken (finger_moves 3 3000) ∷ taken (finger_moves 2 2000) ∷ []) ≡ batch 1 (sample 2 2000 (0 ∷ []) ∷ sample 3 3000 (0 ∷ []) ∷ []) ∷ []
own_moment = refl

pub own_moment_before
    : items (flushed ∷ taken (finger_moves 3 3000) ∷ framed 3000 ∷ taken (finger_moves 2 2000) ∷ [])
    ≡ batch 1 (sample 2 2000 (0 ∷ []) ∷ []) ∷ batch 1 (sample 3 3000 (0 ∷ []) ∷ []) ∷ []
own_moment_before = refl

-- a frame releases a part of what waits, and the rest keeps waiting
pub part_of_a_batch : pending 1 (framed 2500 ∷ taken (finger_moves 3 3000) ∷ taken (finger_moves 2 2000) ∷ []) ≡ sample 3 3000 (0 ∷ []) ∷ []
part_of_a_batch = refl

-- moves of two devices in turn, and a change of the focus, which ends no batch
pub two_devices
    : items
    (framed 2000 ∷ taken (motion 5 1400 2 Move 0 (0 ∷ [])) ∷ taken (motion 4 1300 1 Move 0 (0 ∷ [])) ∷ taken (record { seq = 3; moment = 1200; body = Focus true })
    ∷ taken (motion 2 1100 2 Move 0 (0 ∷ [])) ∷ taken (motion 1 1000 1 Move 0 (0 ∷ [])) ∷ [])
    ≡ One (record { seq = 3; moment = 1200; body = Focus true })
    ∷ batch 1 (sample 1 1000 (0 ∷ []) ∷ sample 4 1300 (0 ∷ []) ∷ [])
    ∷ batch 2 (sample 2 1100 (0 ∷ []) ∷ sample 5 1400 (0 ∷ []) ∷ [])
    ∷ []
two_devices = refl

-- a move with the mark 2 is an item by itself, and ends what waits
abbrev pub marked_move : Message
marked_move = record { seq = 3; moment = 3000; body = Motion (record { device = 1; action = Move; index = 0; flags = 2; pointers = finger 0 ∷ [] }) }

pub a_mark_stands_alone
    : items (flushed ∷ taken (finger_moves 4 4000) ∷ taken marked_move ∷ taken (finger_moves 2 2000) ∷ [])
    ≡ batch 1 (sample 2 2000 (0 ∷ []) ∷ []) ∷ One marked_move ∷ batch 1 (sample 4 4000 (0 ∷ []) ∷ []) ∷ []
a_mark_stands_alone = refl

-- the 256th sample ends its batch; the one before it does not
pub full_batch
    : added_by (replicate 255 (sample 1 1000 (0 ∷ []))) (finger_moves 256 2000) ≡ batch 1 (replicate 255 (sample 1 1000 (0 ∷ [])) ++ sample 256 2000 (0 ∷ []) ∷ []) ∷ []
full_batch = refl

pub begins_anew : kept_after (replicate 255 (sample 1 1000 (0 ∷ []))) (finger_moves 256 2000) ≡ []
begins_anew = refl

pub not_full_yet : added_by (replicate 254 (sample 1 1000 (0 ∷ []))) (finger_moves 255 2000) ≡ []
not_full_yet = refl
