-- Which successive messages make up one batch.
use Rattle.std.specs.Prelude.{ℕ, zero, suc, ◌++◌, ◌==◌, ◌&&◌, ◌||◌, not, Bool, false, if◌then◌else◌}
use Rattle.std.specs.Prelude.{List, [], ◌∷◌, length, Option, Some, None}
use Rattle.input_types.specs.declared.message.Body.{Body}
use Rattle.input_types.specs.declared.message.Message.{Message}
use Rattle.motion_batch.specs.Calls.{Call, framed, flushed, pending, taken}
use Rattle.motion_batch.specs.Rule.{class_of, has_same_ids, is_move, pointers_of, reaches}

-- a message that was taken, and whether a frame separates it from the next one of its class
pub record Mark : Type 0 where
  pub message : Message
  pub parted : Bool

-- a message that no frame has separated from the next one
abbrev pub unparted : Message → Mark
unparted m = record { message = m; parted = false }

-- A frame separates a waiting message from the next one of its class if its moment is not below that of the message,
-- and the next one was not taken yet or has a moment above that of the frame.
abbrev pub parts : Option ℕ → Message → Option Message → Bool
parts at m None = reaches at m.moment
parts at m (Some n) = reaches at m.moment && not (reaches at n.moment)

-- a message that waits when a frame comes; next is the one that was taken after it
abbrev pub marked_by : Option ℕ → Option Message → Mark → Mark
marked_by at next m = record { message = m.message; parted = m.parted || parts at m.message next }

-- the messages of a class, newest first, after a frame: the first so many of them wait; next is the one after these
abbrev pub part : Option ℕ → Option Message → ℕ → List Mark → List Mark
part at next zero ms = ms
part at next (suc n) [] = []
part at next (suc n) (m ∷ ms) = marked_by at next m ∷ part at (Some m.message) n ms

-- the messages of a class that these calls took, newest first
abbrev pub marks : ℕ → List Call → List Mark
marks k [] = []
marks k (taken m ∷ calls) = if class_of m.body == k then unparted m ∷ marks k calls else marks k calls
marks k (framed at ∷ calls) = part (Some at) None (length (pending k calls)) (marks k calls)
marks k (flushed ∷ calls) = part None None (length (pending k calls)) (marks k calls)

-- two messages are moves that list the same ids
abbrev pub are_alike : Body → Body → Bool
are_alike a b = is_move a && (is_move b && has_same_ids (pointers_of a) (pointers_of b))

-- Two successive messages of a class are in one batch if they are moves that list the same ids, the first is not the
-- 256th of its batch, which has so many messages so far, and no frame separates them.
abbrev pub joins : Mark → Message → ℕ → Bool
joins m n size = are_alike m.message.body n.body && (not (size == 256) && not m.parted)

-- The groups of a class, newest first, with one more message: it joins the newest group, or starts its own.
abbrev pub grouped : List Mark → Message → List (List Message) → List (List Message)
grouped [] n groups = (n ∷ []) ∷ groups
grouped (m ∷ ms) n [] = (n ∷ []) ∷ []
grouped (m ∷ ms) n (g ∷ groups) = if joins m n (length g) then (g ++ n ∷ []) ∷ groups else (n ∷ []) ∷ g ∷ groups

-- the messages of a class in groups, newest first, each group those of one batch
abbrev pub groups_of : List Mark → List (List Message)
groups_of [] = []
groups_of (n ∷ ms) = grouped ms n.message (groups_of ms)
