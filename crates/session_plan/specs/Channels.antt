-- The channels of a session.
use Rattle.std.specs.Prelude.{ℕ, pos, ◌+◌, ◌*◌, nat_le, nat_lt, codes, ◌&&◌, not, Bool, true, if◌then◌else◌, List, [], ◌∷◌, length, Option, Some, None, Result, Ok, Err}
use Rattle.std.specs.List.{list_any, list_all}
use Rattle.std.specs.Str.{bytes_eq}
use Rattle.toml.specs.Data.{Data, get, as_bool}
use Rattle.session_plan.specs.declared.key.Place.{Place}
use Rattle.session_plan.specs.declared.key.Place.TheVariants as place
use Rattle.session_plan.specs.Fault.{Fault, ◌>>=◌, unknown_name}
use Rattle.session_plan.specs.Keys.{key_of}
use Rattle.session_plan.specs.Plan.{ChannelData}
use Rattle.session_plan.specs.Reading.{of_kind, needs, or_default, number_or, text_at, tables_at, at_most, each}

-- a name has 1 to 64 bytes from ! to ~
abbrev pub is_name : List ℕ → Bool
is_name bs = nat_lt 0 (length bs) && (nat_le (length bs) 64 && list_all (λ c. nat_le 33 c && nat_le c 126) bs)

-- no channel has the name
abbrev pub is_new : List ChannelData → List ℕ → Bool
is_new channels name = not (list_any (λ c. bytes_eq c.name name) channels)

-- the number of the channel with this name, where the first of these has number k
abbrev pub named_from : ℕ → List ChannelData → List ℕ → Option ℕ
named_from k [] name = None
named_from k (c ∷ cs) name = if bytes_eq c.name name then Some k else named_from (k + 1) cs name

-- what has to be known
abbrev pub known : List ℕ → Option ℕ → Result ℕ Fault
known key None = Err (unknown_name key)
known key (Some n) = Ok n

-- the number of the channel with this name
abbrev pub channel_named : List ℕ → List ChannelData → List ℕ → Result ℕ Fault
channel_named key channels name = known key (named_from 1 channels name)

-- whether a channel finishes messages
unfoldable pub finishes_at : Place → Data → Result Bool Fault
finishes_at place d = or_default true (get (codes "finishes") d) (λ v. of_kind (key_of place (codes "finishes")) (as_bool v))

-- channel k, behind these
unfoldable pub channel_of : ℕ → List ChannelData → Data → Result ChannelData Fault
channel_of k found d = do
  name ← text_at (place.Channel k) (codes "name") d
  fits ← needs (key_of (place.Channel k) (codes "name")) (is_name name && is_new found name)
  ms ← number_or 5000 (place.Channel k) (codes "limit_ms") (pos 1) (pos 600000) d
  us ← number_or 0 (place.Channel k) (codes "finish_after_us") (pos 0) (pos 1000000000000000) d
  finishes ← finishes_at (place.Channel k) d
  Ok (record { name = name; limit = ms * 1000; finish_after = us; finishes = finishes })

-- the channels of a document
unfoldable pub channels_of : Data → Result (List ChannelData) Fault
channels_of d = do
  ds ← tables_at place.Document (codes "channel") d
  few ← at_most (key_of place.Document (codes "channel")) 64 ds
  each channel_of 1 [] ds
