-- The keys that are down on one device, as what is kept of them says.
use Rattle.std.specs.Prelude.{ℕ, ◌/◌, ◌%◌, Bool, List, slice_index_or}
use Rattle.bits32.specs.Set.{is_in}

-- The key with a scan code is down: its bit stands in the set of its 32 codes. The sets stand in the order of the codes.
abbrev pub has_key : List ℕ → ℕ → Bool
has_key sets scan = is_in (scan % 32) (slice_index_or sets (scan / 32) 0)
