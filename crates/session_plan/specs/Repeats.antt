-- When the held keys of a session are repeated.
use Rattle.std.specs.Prelude.{ℕ, ℤ, pos, codes, Bool, true, if◌then◌else◌, List, [], ◌∷◌, Option, Some, None, Result, Ok}
use Rattle.toml.specs.Data.{Data, get, as_integer, as_bool}
use Rattle.key_repeat.specs.declared.delays.Repeats.{Repeats}
use Rattle.key_repeat.specs.Due.{android_delays}
use Rattle.session_plan.specs.declared.key.Place.TheVariants as place
use Rattle.session_plan.specs.declared.repeat.Waits.{Waits}
use Rattle.session_plan.specs.Fault.{Fault, ◌>>=◌}
use Rattle.session_plan.specs.Keys.{key_of}
use Rattle.session_plan.specs.Reading.{of_kind, or_default, in_range, as_list}

-- both numbers where they are integers
abbrev pub both : Option ℤ → Option ℤ → Option Waits
both (Some first) (Some next) = Some (record { first = first; next = next })
both _ _ = None

-- two integers: from the down of a key to its first repeat, and from each repeat to the next
abbrev pub waits_of : List Data → Option Waits
waits_of (a ∷ b ∷ []) = both (as_integer a) (as_integer b)
waits_of _ = None

-- the two integers, where a value is an array
abbrev pub waits_in : Option (List Data) → Option Waits
waits_in None = None
waits_in (Some ds) = waits_of ds

-- a delay of a millisecond to ten minutes, in microseconds
abbrev pub delay_of : List ℕ → ℤ → Result ℕ Fault
delay_of key z = in_range key (pos 1000) (pos 600000000) z

-- the delays that a value says
unfoldable pub delays_of : List ℕ → Data → Result Repeats Fault
delays_of key d = do
  waits ← of_kind key (waits_in (as_list d))
  first ← delay_of key waits.first
  next ← delay_of key waits.next
  Ok (record { first = first; next = next })

-- the delays of a document, Android's where it says none
unfoldable pub delays_at : Data → Result Repeats Fault
delays_at d = or_default android_delays (get (codes "repeat_us") d) (delays_of (key_of place.Document (codes "repeat_us")))

-- whether the session repeats held keys; where it does not, its clients do
unfoldable pub is_repeated_at : Data → Result Bool Fault
is_repeated_at d = or_default true (get (codes "repeat") d) (λ v. of_kind (key_of place.Document (codes "repeat")) (as_bool v))

-- when the held keys of a document are repeated, if they are; its delays are judged either way
unfoldable pub repeats_at : Data → Result (Option Repeats) Fault
repeats_at d = do
  delays ← delays_at d
  repeated ← is_repeated_at d
  Ok (if repeated then Some delays else None)
