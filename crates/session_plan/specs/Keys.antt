-- How a key of a session file is named: the path to it, with the entries of arrays of tables counted from 1.
use Rattle.std.specs.Prelude.{ℕ, codes, List, ◌++◌}
use Rattle.std.specs.Fmt.{decimal}
use Rattle.session_plan.specs.declared.key.Place.{Place}
use Rattle.session_plan.specs.declared.key.Place.TheVariants.{Document, Display, ExtraDisplay, Device, Channel, Step, Window}

-- a key of entry k of an array of tables, as device[1].slots
abbrev pub entry_key : List ℕ → ℕ → List ℕ → List ℕ
entry_key array k key = array ++ (codes "[" ++ (decimal k ++ (codes "]." ++ key)))

-- a key of window j of step k, as step[3].windows[2].frame
abbrev pub window_key : ℕ → ℕ → List ℕ → List ℕ
window_key k j key = codes "step[" ++ (decimal k ++ (codes "].windows[" ++ (decimal j ++ (codes "]." ++ key))))

-- a key of a table by its path
unfoldable pub key_of : Place → List ℕ → List ℕ
key_of Document key = key
key_of Display key = codes "display." ++ key
key_of (ExtraDisplay k) key = entry_key (codes "extra_display") k key
key_of (Device k) key = entry_key (codes "device") k key
key_of (Channel k) key = entry_key (codes "channel") k key
key_of (Step k) key = entry_key (codes "step") k key
key_of (Window k j) key = window_key k j key
