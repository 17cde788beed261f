-- What is listed of a table, and what it means that nothing reads a key.
use Rattle.std.specs.Prelude.{◌≡◌, ℕ, not, true, List, [], filter, option_map}
use Rattle.std.specs.List.{All}
use Rattle.toml.specs.Data.{Data, Members, no_members, member}
use Rattle.session_plan.specs.Reading.{parsed}
use Rattle.session_plan.specs.Session.{session_of}
use Rattle.unread_keys.specs.declared.names.Kind.{Kind}
use Rattle.unread_keys.specs.declared.place.Place.{Place}
use Rattle.unread_keys.specs.Lines.{keys_of, unread, unread_lines}
use Rattle.unread_keys.specs.Names.{is_read}
use Rattle.unread_keys.specs.Pruned.{kept, pruned}

-- each key that is listed of a table is one that nothing reads there
abbrev pub ListsUnread : Type 0
ListsUnread = (kind : Kind) (members : Members) → All (λ key. not (is_read kind key) ≡ true) (unread kind members)

-- each key of a table is read
abbrev pub AreRead : Kind → Members → Type 0
AreRead kind no_members = Unit {0}
AreRead kind (member key value more) = (is_read kind key ≡ true) × AreRead kind more

-- of a table whose keys are all read none is listed
abbrev pub ListsNone : Type 0
ListsNone = (place : Place) (kind : Kind) (members : Members) → AreRead kind members → unread_lines place kind members ≡ []

-- two session files that are the same without the keys that nothing reads have the same plan, or the same refusal
abbrev pub KeepsPlan : Type 0
KeepsPlan = (a b : List ℕ) → option_map pruned (parsed a) ≡ option_map pruned (parsed b) → session_of a ≡ session_of b

-- pruning takes from a table the keys that are listed of it, and no other
abbrev pub TakesListed : Type 0
TakesListed = (kind : Kind) (inside : List ℕ → Data → Data) (members : Members) → keys_of (kept kind inside members) ≡ filter (is_read kind) (keys_of members)
