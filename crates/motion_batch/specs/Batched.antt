-- What holds of the items of every run.
use Rattle.std.specs.Prelude.{◌≡◌, ℕ, ◌++◌, ◌≤◌, true, List, [], ◌∷◌, map, reverse}
use Rattle.input_types.specs.declared.message.Message.{Message}
use Rattle.input_types.specs.StreamRule.{is_well_formed}
use Rattle.motion_batch.specs.declared.sample.Sample.{Sample}
use Rattle.motion_batch.specs.Calls.{Call, framed, flushed, items, pending, taken}
use Rattle.motion_batch.specs.Pairs.{groups_of, marks}
use Rattle.motion_batch.specs.Unbatch.{items_of, messages, messages_of, move_of, of_class, unbatch}

-- no message taken has a moment above this one
abbrev pub IsLatest : ℕ → List Call → Type 0
IsLatest moment [] = Unit {0}
IsLatest moment (taken m ∷ calls) = (m.moment ≤ moment) × IsLatest moment calls
IsLatest moment (framed at ∷ calls) = IsLatest moment calls
IsLatest moment (flushed ∷ calls) = IsLatest moment calls

-- no message taken has a moment below that of an earlier one
abbrev pub IsRising : List Call → Type 0
IsRising [] = Unit {0}
IsRising (taken m ∷ calls) = IsLatest m.moment calls × IsRising calls
IsRising (framed at ∷ calls) = IsRising calls
IsRising (flushed ∷ calls) = IsRising calls

-- the waiting messages of a class are a group of their own, the newest one
abbrev pub with_waiting : ℕ → List Sample → List (List Message) → List (List Message)
with_waiting k [] groups = groups
with_waiting k (s ∷ ss) groups = map (move_of k) (s ∷ ss) ∷ groups

-- the messages of the items of a class, and then those that wait
abbrev pub told : ℕ → List Call → List Message
told k calls = unbatch (items_of k (items calls)) ++ map (move_of k) (pending k calls)

-- the messages of the items of a class, each item a group, newest first, with the waiting ones in front
abbrev pub item_groups : ℕ → List Call → List (List Message)
item_groups k calls = with_waiting k (pending k calls) (reverse (map messages_of (items_of k (items calls))))

-- For each class, from 0 to 8: the messages of its items, followed by the waiting ones, are those taken of it. If
-- moments never decrease, the messages of an item, and the waiting ones, are those of one batch.
pub record IsBatched (calls : List Call) : Type 0 where
  pub whole : (k : ℕ) → k ≤ 8 → told k calls ≡ of_class k (messages calls)
  pub pairs : IsRising calls → (k : ℕ) → k ≤ 8 → groups_of (marks k calls) ≡ item_groups k calls

-- After a flush the items contain everything that was taken. If the messages taken are a well-formed stream, so are
-- those of each class of all items.
pub record IsFlushed (calls : List Call) : Type 0 where
  pub all : (k : ℕ) → k ≤ 8 → of_class k (unbatch (items calls)) ≡ of_class k (messages calls)
  pub well_formed : is_well_formed (reverse (messages calls)) ≡ true → (k : ℕ) → k ≤ 8
      → is_well_formed (reverse (of_class k (unbatch (items calls)))) ≡ true
