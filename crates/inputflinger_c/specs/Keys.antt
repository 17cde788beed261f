-- What C gets about the keys that are down.
use Rattle.std.specs.Prelude.{◌≡◌, ℕ, ◌<◌, ◌++◌, Bool, true, false, List, ◌∷◌, [], map, drop, length, nat_eq, Option, Some, None, is_some}
use Rattle.std.specs.List.{list_any}
use Rattle.gesture_verifier.specs.Held.{are_rising, is_held}
use Rattle.gesture_verifier.specs.Told.{Told, state_of}
use Rattle.gesture_verifier.specs.declared.held.HeldKey.{HeldKey}
use Rattle.inputflinger_c.specs.declared.judge_keys.PlainKey.{PlainKey}
use Rattle.plain_calls.specs.Status.{status_ok, is_free, no_memory, no_room}

-- a key as C gets it
abbrev pub plain_key : HeldKey → PlainKey
plain_key k = record { device = k.device; scan = k.scan }

-- the statuses of a call that returns keys
abbrev pub is_sent : ℕ → Bool
is_sent status = list_any (λ s. nat_eq s status) (status_ok ∷ no_room ∷ [])

-- The keys that are down, in rising order, and how many they are; they are written to the first places if there is
-- room for all of them, and otherwise none is.
pub record SendsKeys (told : Told) (status : ℕ) (before after : List PlainKey) (count : ℕ) : Type 0 where
  pub keys : List HeldKey
  pub rising : are_rising keys ≡ true
  pub exact : (d s : ℕ) → is_held d s keys ≡ is_some ((state_of told).repeats d s)
  pub counted : count ≡ length keys
  pub one : is_sent status ≡ true
  pub ok : status ≡ status_ok → after ≡ map plain_key keys ++ drop (length keys) before
  pub small : status ≡ no_room → (length before < length keys) × (after ≡ before)

-- the result of returning them, by whether memory ran out
abbrev pub KeysSent : Bool → ℕ → Told → List PlainKey → List PlainKey → ℕ → ℕ → Type 0
KeysSent true status told before after was count = (after ≡ before) × (count ≡ was)
KeysSent false status told before after was count = SendsKeys told status before after count

-- the result of `keys`: a free handle returns nothing, and a judge stays as it is
abbrev pub KeysGo : Option Told → ℕ → Option Told → List PlainKey → List PlainKey → ℕ → ℕ → Type 0
KeysGo None status new before after was count = (status ≡ is_free) × ((new ≡ None) × ((after ≡ before) × (count ≡ was)))
KeysGo (Some told) status new before after was count = (new ≡ Some told) × KeysSent (nat_eq status no_memory) status told before after was count
