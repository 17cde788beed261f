-- How a message or a frame changes the waiting moves of its device.
use Rattle.std.specs.Prelude.{ℕ, suc, ◌++◌, ◌==◌, ◌&&◌, nat_le, Bool, true, false, if◌then◌else◌}
use Rattle.std.specs.Prelude.{List, [], ◌∷◌, length, take, drop, Option, Some, None}
use Rattle.input_types.specs.declared.message.Body.{Body}
use Rattle.input_types.specs.declared.message.Body.TheVariants.{Motion, Key, Focus}
use Rattle.input_types.specs.declared.message.Message.{Message}
use Rattle.input_types.specs.declared.motion.MotionAction.{MotionAction}
use Rattle.input_types.specs.declared.motion.MotionAction.TheVariants.{Move}
use Rattle.input_types.specs.declared.pointer.Pointer.{Pointer}
use Rattle.motion_batch.specs.declared.item.Item.{Item}
use Rattle.motion_batch.specs.declared.item.Item.TheVariants.{One, Batch}
use Rattle.motion_batch.specs.declared.sample.Sample.{Sample}

-- the class of a message: a motion is of its device, 1 to 8, and every other message of class 0
abbrev pub class_of : Body → ℕ
class_of (Motion m) = m.device
class_of (Key m) = 0
class_of (Focus b) = 0

-- the action of a move
abbrev pub is_move_action : MotionAction → Bool
is_move_action Move = true
is_move_action _ = false

-- a move, as it may wait: its index and its flags are 0
abbrev pub is_move : Body → Bool
is_move (Motion m) = is_move_action m.action && (m.index == 0 && m.flags == 0)
is_move (Key m) = false
is_move (Focus b) = false

-- the pointers that a motion lists
abbrev pub pointers_of : Body → List Pointer
pointers_of (Motion m) = m.pointers
pointers_of (Key m) = []
pointers_of (Focus b) = []

-- a move as a sample
abbrev pub sample_of : Message → Sample
sample_of m = record { seq = m.seq; moment = m.moment; pointers = pointers_of m.body }

-- two lists have the same ids
abbrev pub has_same_ids : List Pointer → List Pointer → Bool
has_same_ids [] [] = true
has_same_ids (p ∷ ps) (q ∷ qs) = p.id == q.id && has_same_ids ps qs
has_same_ids _ _ = false

-- a message continues the last of the waiting moves: it is a move, and both list the same ids
abbrev pub extends : List Sample → Body → Bool
extends [] b = false
extends (s ∷ []) b = is_move b && has_same_ids s.pointers (pointers_of b)
extends (s ∷ t ∷ ss) b = extends (t ∷ ss) b

-- samples of a device as a batch; none if there are none
abbrev pub batch_of : ℕ → List Sample → List Item
batch_of d [] = []
batch_of d (s ∷ ss) = Batch (record { device = d; samples = s ∷ ss }) ∷ []

-- a batch of 256 samples is full
abbrev pub is_full : List Sample → Bool
is_full ss = length ss == 256

-- a full batch is released at once
abbrev pub full_of : ℕ → List Sample → List Item
full_of d ss = if is_full ss then batch_of d ss else []

-- samples that are not a full batch wait
abbrev pub below_most : List Sample → List Sample
below_most ss = if is_full ss then [] else ss

-- The items that a message adds, if these moves of its class wait: waiting moves that it does not continue are
-- released first. A move then waits, with those that it continues, and every other message is released by itself.
abbrev pub added_by : List Sample → Message → List Item
added_by ss m =
    if extends ss m.body then full_of (class_of m.body) (ss ++ sample_of m ∷ [])
    else batch_of (class_of m.body) ss ++ (if is_move m.body then [] else One m ∷ [])

-- the moves of its class that wait after a message
abbrev pub kept_after : List Sample → Message → List Sample
kept_after ss m =
    if extends ss m.body then below_most (ss ++ sample_of m ∷ [])
    else if is_move m.body then sample_of m ∷ []
    else []

-- the moment of a frame is not below this one; a flush counts as a frame whose moment is above all others
abbrev pub reaches : Option ℕ → ℕ → Bool
reaches None moment = true
reaches (Some at) moment = nat_le moment at

-- a frame releases a move whose moment is not above its own
abbrev pub is_due : Option ℕ → Sample → Bool
is_due at s = reaches at s.moment

-- how many moves are due, up to the first that is not
abbrev pub count_due : Option ℕ → List Sample → ℕ
count_due at [] = 0
count_due at (s ∷ ss) = if is_due at s then suc (count_due at ss) else 0

-- the moves that a frame releases, up to the first that is not due
abbrev pub due_of : Option ℕ → List Sample → List Sample
due_of at ss = take (count_due at ss) ss

-- the moves that wait after a frame
abbrev pub left_by : Option ℕ → List Sample → List Sample
left_by at ss = drop (count_due at ss) ss
