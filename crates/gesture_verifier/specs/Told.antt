-- What a verifier stands for, and how its tables say it.
use Rattle.std.specs.Prelude.{◌≡◌, ℕ, ◌+◌, ◌-◌, ◌*◌, ◌^◌, ◌&&◌, nat_le, nat_lt, Bool, List, [], Option, Some, None, slice_index, min, length, if◌then◌else◌}
use Rattle.std.specs.List.{list_all}
use Rattle.std.specs.Map.{keys_of, lookup}
use Rattle.std.specs.Ordering.{nat_cmp, is_eq}
use Rattle.input_types.specs.declared.message.Message.{Message}
use Rattle.input_types.specs.StreamRule.{StreamState, stream_state}
use Rattle.bits32.specs.Set.{members}

-- the tables of a verifier: for each device the set of the ids that are down, for each key that is down the next repeat number beside the
-- key's place, the focus, and how many messages were accepted
pub record Told : Type 0 where
  pub sets : List ℕ
  pub repeats : List (ℕ × ℕ)
  pub focus : Bool
  pub accepted : ℕ

-- the count after one more, saturated at the greatest number of 64 bits
abbrev pub one_more : ℕ → ℕ
one_more n = min (n + 1) (2 ^ 64 - 1)

-- devices are numbered from 1 to 8
abbrev pub is_device : ℕ → Bool
is_device d = nat_le 1 d && nat_le d 8

-- the ids that are down on a device, from a table of one set of ids for each device
abbrev pub ids_kept : List ℕ → ℕ → List ℕ
ids_kept sets d = if is_device d then members (slice_index sets (d - 1)) else []

-- a key of a device: its scan code has 16 bits
abbrev pub is_of_device : ℕ → ℕ → Bool
is_of_device d s = is_device d && nat_lt s 65536

-- the place of a key among those of all devices: the keys of one device are together, in the order of their scan codes
abbrev pub key_place : ℕ → ℕ → ℕ
key_place device scan = (device - 1) * 65536 + scan

-- there are 65536 places for each of the 8 devices
abbrev pub is_place : ℕ → Bool
is_place place = nat_lt place 524288

-- a table has numbers only at places
abbrev pub are_places : List (ℕ × ℕ) → Bool
are_places repeats = list_all is_place (keys_of repeats)

-- the next repeat number at a place
abbrev pub due_at : List (ℕ × ℕ) → ℕ → Option ℕ
due_at repeats place = lookup (λ k. is_eq (nat_cmp place k)) repeats

-- the next repeat number of a key; a key without one is up
abbrev pub due_kept : List (ℕ × ℕ) → ℕ → ℕ → Option ℕ
due_kept repeats d s = if is_of_device d s then due_at repeats (key_place d s) else None

-- what a window knows, from the tables
abbrev pub state_of : Told → StreamState
state_of told = record { ids = ids_kept told.sets; repeats = due_kept told.repeats; focus = told.focus }

-- A verifier that was shown a list of messages, newest first, and accepted all of them: the stream is well-formed,
-- its tables say what a window knows after it, and the count is its length, as far as 64 bits go.
pub record VerifierStandsFor (past : List Message) (told : Told) : Type 0 where
  pub state : stream_state past ≡ Some (state_of told)
  pub count : told.accepted ≡ min (length past) (2 ^ 64 - 1)
