-- The flags of a window.
use Rattle.std.specs.Prelude.{ℕ, codes, bit_and, bit_or, ◌==◌, ◌||◌, not, Bool, List, [], ◌∷◌, is_some, Result, Ok}
use Rattle.std.specs.List.{list_all}
use Rattle.bitflags.specs.Sets.{find_name}
use Rattle.toml.specs.Data.{Data, get, as_str}
use Rattle.window_snapshot.specs.FlagTable.{flag_table}
use Rattle.session_plan.specs.declared.key.Place.{Place}
use Rattle.session_plan.specs.Channels.{known}
use Rattle.session_plan.specs.Fault.{Fault, ◌>>=◌}
use Rattle.session_plan.specs.Keys.{key_of}
use Rattle.session_plan.specs.Reading.{of_kind, needs, or_default, as_list}

-- the bits of the flags with these names, and of some more
abbrev pub bits_from : List ℕ → ℕ → List Data → Result ℕ Fault
bits_from key bits [] = Ok bits
bits_from key bits (d ∷ ds) = do
  name ← of_kind key (as_str d)
  bit ← known key (find_name flag_table name)
  bits_from key (bit_or bits bit) ds

-- the bits of an array of names
unfoldable pub bits_of : List ℕ → Data → Result ℕ Fault
bits_of key d = do
  ds ← of_kind key (as_list d)
  formed ← needs key (list_all (λ e. is_some (as_str e)) ds)
  bits_from key 0 ds

-- the bits of a window's flags, none where nothing stands there
unfoldable pub bits_at : Place → Data → Result ℕ Fault
bits_at place d = or_default 0 (get (codes "flags") d) (bits_of (key_of place (codes "flags")))

-- a wall has none of the flags WATCH_OUTSIDE_TOUCH, SLIPPERY, SPY and PREVENT_SPLITTING, which are for windows that get touches
abbrev pub fits_wall : ℕ → Bool
fits_wall bits = bit_and bits 60 == 0

-- the bits of a window's flags, which fit a wall where it is one
unfoldable pub bits_for : Place → (wall : Bool) → Data → Result ℕ Fault
bits_for place wall d = do
  bits ← bits_at place d
  fit ← needs (key_of place (codes "flags")) (not wall || fits_wall bits)
  Ok bits
