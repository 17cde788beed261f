-- What a batcher stands for: the calls so far, and what the next one adds.
use Rattle.std.specs.Prelude.{◌≡◌, ℕ, ◌+◌, ◌++◌, ◌≤◌, ◌==◌, if◌then◌else◌, List, [], ◌∷◌, map, Option, Some, None}
use Rattle.input_types.specs.declared.message.Body.{Body}
use Rattle.input_types.specs.declared.message.Body.TheVariants.{Motion, Key, Focus}
use Rattle.input_types.specs.declared.message.Message.{Message}
use Rattle.motion_batch.specs.declared.item.Item.{Item}
use Rattle.motion_batch.specs.declared.sample.Sample.{Sample}
use Rattle.motion_batch.specs.Rule.{added_by, batch_of, class_of, due_of, kept_after, left_by}

-- a call that did not run out of memory: a message was taken, a frame came at a moment, or everything was flushed
pub data Call : Type 0 where
  taken : Message → Call
  framed : ℕ → Call
  flushed : Call

-- the moves of a class that wait after these calls, newest first
abbrev pub pending : ℕ → List Call → List Sample
pending k [] = []
pending k (taken m ∷ calls) = if class_of m.body == k then kept_after (pending k calls) m else pending k calls
pending k (framed at ∷ calls) = left_by (Some at) (pending k calls)
pending k (flushed ∷ calls) = left_by None (pending k calls)

-- the devices in rising order
abbrev pub devices : List ℕ
devices = 1 ∷ 2 ∷ 3 ∷ 4 ∷ 5 ∷ 6 ∷ 7 ∷ 8 ∷ []

-- the moves of each device that wait
abbrev pub rows_of : List Call → List (List Sample)
rows_of calls = map (λ d. pending d calls) devices

-- what is due of each device, from device d on, one batch a device
abbrev pub due_of_rows : Option ℕ → ℕ → List (List Sample) → List Item
due_of_rows at d [] = []
due_of_rows at d (row ∷ rows) = batch_of d (due_of at row) ++ due_of_rows at (d + 1) rows

-- the moves of each device that wait after a frame
abbrev pub rows_left : Option ℕ → List (List Sample) → List (List Sample)
rows_left at rows = map (left_by at) rows

-- the items that a call adds after these calls
abbrev pub added : Call → List Call → List Item
added (taken m) calls = added_by (pending (class_of m.body) calls) m
added (framed at) calls = due_of_rows (Some at) 1 (rows_of calls)
added flushed calls = due_of_rows None 1 (rows_of calls)

-- all items of these calls, in the order in which they were released
abbrev pub items : List Call → List Item
items [] = []
items (call ∷ calls) = items calls ++ added call calls

-- the device of a motion is 1 to 8
abbrev pub IsOfDevice : Body → Type 0
IsOfDevice (Motion m) = (1 ≤ m.device) × (m.device ≤ 8)
IsOfDevice (Key m) = Unit {0}
IsOfDevice (Focus b) = Unit {0}

-- each motion that was taken is of a device from 1 to 8
abbrev pub AreOfDevices : List Call → Type 0
AreOfDevices [] = Unit {0}
AreOfDevices (taken m ∷ calls) = IsOfDevice m.body × AreOfDevices calls
AreOfDevices (framed at ∷ calls) = AreOfDevices calls
AreOfDevices (flushed ∷ calls) = AreOfDevices calls

-- a batcher after these calls, newest first: its rows are the waiting moves of each device
pub record RowsStandFor (calls : List Call) (rows : List (List Sample)) : Type 0 where
  pub rows_are : rows ≡ rows_of calls
  pub devices_are : AreOfDevices calls
