-- Items as messages.
use Rattle.std.specs.Prelude.{ℕ, ◌++◌, ◌==◌, List, [], ◌∷◌, map}
use Rattle.std.specs.List.{filter}
use Rattle.input_types.specs.declared.message.Body.TheVariants.{Motion}
use Rattle.input_types.specs.declared.message.Message.{Message}
use Rattle.input_types.specs.declared.motion.MotionAction.TheVariants.{Move}
use Rattle.motion_batch.specs.declared.item.Item.{Item}
use Rattle.motion_batch.specs.declared.item.Item.TheVariants.{One, Batch}
use Rattle.motion_batch.specs.declared.sample.Sample.{Sample}
use Rattle.motion_batch.specs.Calls.{Call, framed, flushed, taken}
use Rattle.motion_batch.specs.Rule.{class_of}

-- a sample of a device is the message of a move
abbrev pub move_of : ℕ → Sample → Message
move_of d s = record {
  seq = s.seq;
  moment = s.moment;
  body = Motion (record { device = d; action = Move; index = 0; flags = 0; pointers = s.pointers });
}

-- an item is its message, or a move for each of its samples
abbrev pub messages_of : Item → List Message
messages_of (One m) = m ∷ []
messages_of (Batch b) = map (move_of b.device) b.samples

-- items as messages, one after another
abbrev pub unbatch : List Item → List Message
unbatch [] = []
unbatch (i ∷ is) = messages_of i ++ unbatch is

-- the class of an item is that of its messages
abbrev pub item_class : Item → ℕ
item_class (One m) = class_of m.body
item_class (Batch b) = b.device

-- the items of a class
abbrev pub items_of : ℕ → List Item → List Item
items_of k is = filter (λ i. item_class i == k) is

-- the messages of a class
abbrev pub of_class : ℕ → List Message → List Message
of_class k ms = filter (λ m. class_of m.body == k) ms

-- the messages that these calls, newest first, took, in the order in which they were taken
abbrev pub messages : List Call → List Message
messages [] = []
messages (taken m ∷ calls) = messages calls ++ m ∷ []
messages (framed at ∷ calls) = messages calls
messages (flushed ∷ calls) = messages calls
