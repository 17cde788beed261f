-- Which section is compared with which.
use Rattle.std.specs.Prelude.{ℕ, nat_eq, Bool, true, List, [], ◌∷◌, map, filter, Option, Some, None, if◌then◌else◌}
use Rattle.std.specs.Option.{option_map}
use Rattle.compare_text.specs.Points.{Section}

-- a channel is that which is named, if one is
abbrev pub is_of : Option ℕ → ℕ → Bool
is_of None id = true
is_of (Some channel) id = nat_eq id channel

-- the sections of the channel that is named, or all if none is
abbrev pub of_channel : Option ℕ → List Section → List Section
of_channel channel ss = filter (λ s. is_of channel s.id) ss

-- a section without its channel
abbrev pub unnamed : Section → Section
unnamed s = record { id = 0; line = s.line; messages = s.messages }

-- The sections of a file that are looked at: all, each of its channel, if no channel is named for either file.
-- Otherwise those of the channel that is named for this file, or all, and their channels do not count.
abbrev pub looked_at : (here there : Option ℕ) → List Section → List Section
looked_at None None ss = ss
looked_at None (Some id) ss = map unnamed (of_channel None ss)
looked_at (Some id) there ss = map unnamed (of_channel (Some id) ss)

-- an expected section with the actual one that is its partner, or one of them without a partner
pub data Pair : Type 0 where
  Both : Section → Section → Pair
  Lone : Section → Pair
  New : Section → Pair

-- the first section of a channel, and the others
abbrev pub take_first : ℕ → List Section → Option (Section × List Section)
take_first id [] = None
take_first id (s ∷ ss) = if nat_eq s.id id then Some (s, ss) else option_map (λ r. (r.0, s ∷ r.1)) (take_first id ss)

-- an expected section, and the pairs of the others with what is left
abbrev pub pair_with : Section → List Section → Option (Section × List Section) → (List Section → List Pair) → List Pair
pair_with w got None rest = Lone w ∷ rest got
pair_with w got (Some found) rest = Both w found.0 ∷ rest found.1

-- The pairs of expected and actual sections: each expected one, in order, with the first actual one of its channel that
-- has no partner yet, and after them the actual ones that have none. So the first of a channel is paired with the
-- first, the second with the second.
abbrev pub pairs : (want got : List Section) → List Pair
pairs [] got = map New got
pairs (w ∷ ws) got = pair_with w got (take_first w.id got) (λ others. pairs ws others)
