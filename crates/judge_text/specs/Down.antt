-- What is down after messages. Messages stand with the newest first.
use Rattle.std.specs.Prelude.{ℕ, zero, suc, ◌&&◌, not, nat_eq, Bool, if◌then◌else◌, List, [], ◌∷◌, ◌++◌, length, Option, Some, None}
use Rattle.std.specs.List.{filter}
use Rattle.input_types.specs.declared.key.KeyMsg.{KeyMsg}
use Rattle.input_types.specs.declared.message.Body.{Body}
use Rattle.input_types.specs.declared.message.Body.TheVariants.{Motion, Key, Focus}
use Rattle.input_types.specs.declared.message.Message.{Message}
use Rattle.input_types.specs.StreamRule.{StreamState, stream_state}
use Rattle.gesture_verifier.specs.declared.held.HeldKey.{HeldKey}
use Rattle.gesture_verifier.specs.Held.{is_before}

-- what is down: each device on which pointer ids are down, with these, and the keys; both in rising order
pub record Down : Type 0 where
  pub pointers : List (ℕ × List ℕ)
  pub keys : List HeldKey

-- the ids that are down on a device, if each message was allowed when it came
abbrev pub ids_in : Option StreamState → ℕ → List ℕ
ids_in None device = []
ids_in (Some s) device = s.ids device

-- a device, where ids are down on it
abbrev pub on_device : ℕ → List ℕ → List (ℕ × List ℕ)
on_device device [] = []
on_device device (id ∷ ids) = (device, id ∷ ids) ∷ []

-- those of the devices 1 to n on which ids are down
abbrev pub pointers_up_to : ℕ → (ℕ → List ℕ) → List (ℕ × List ℕ)
pointers_up_to zero ids = []
pointers_up_to (suc n) ids = pointers_up_to n ids ++ on_device (suc n) (ids (suc n))

-- two keys are the same
abbrev pub is_same : HeldKey → HeldKey → Bool
is_same a b = nat_eq a.device b.device && nat_eq a.scan b.scan

-- keys in rising order, and a key in its place among them
abbrev pub with_key : HeldKey → List HeldKey → List HeldKey
with_key k [] = k ∷ []
with_key k (q ∷ qs) = if is_before k q then k ∷ q ∷ qs else if is_before q k then q ∷ with_key k qs else k ∷ qs

-- keys without one of them
abbrev pub without_key : HeldKey → List HeldKey → List HeldKey
without_key k qs = filter (λ q. not (is_same k q)) qs

-- the key of a key message
abbrev pub held_key_of : KeyMsg → HeldKey
held_key_of m = record { device = m.key.device; scan = m.key.scan }

-- the keys that are down after a message, where these were down before it
abbrev pub keys_with : Body → List HeldKey → List HeldKey
keys_with (Motion m) keys = keys
keys_with (Key m) keys = if m.key.down then with_key (held_key_of m) keys else without_key (held_key_of m) keys
keys_with (Focus b) keys = keys

-- the keys that are down after messages
abbrev pub keys_after : List Message → List HeldKey
keys_after [] = []
keys_after (m ∷ past) = keys_with m.body (keys_after past)

-- what is down after messages
abbrev pub down_after : List Message → Down
down_after past = record { pointers = pointers_up_to 8 (ids_in (stream_state past)); keys = keys_after past }

-- nothing is down
abbrev pub is_nothing : Down → Bool
is_nothing down = nat_eq (length down.pointers) 0 && nat_eq (length down.keys) 0
