-- The keys of a session that nothing reads.
use Rattle.std.specs.Prelude.{ℕ, codes, ◌+◌, if◌then◌else◌, List, [], ◌∷◌, ◌++◌, Option, Some, None}
use Rattle.toml.specs.Data.{Data, Members, get, as_table}
use Rattle.session_plan.specs.Reading.{as_list, parsed}
use Rattle.unread_keys.specs.declared.names.Kind.{Kind}
use Rattle.unread_keys.specs.declared.names.Kind.TheVariants as kinds
use Rattle.unread_keys.specs.declared.place.Place.{Place}
use Rattle.unread_keys.specs.declared.place.Place.TheVariants.{Top, Display, ExtraDisplay, Device, Channel, Step, Window}
use Rattle.unread_keys.specs.declared.table.Array.{Array}
use Rattle.unread_keys.specs.declared.table.Array.TheVariants as arrays
use Rattle.unread_keys.specs.Lines.{unread_lines}
use Rattle.unread_keys.specs.Names.{device_kind, is_word, step_kind}

-- the lines of a table, where there is one
abbrev pub members_lines : Place → Kind → Option Members → List ℕ
members_lines place kind None = []
members_lines place kind (Some members) = unread_lines place kind members

-- the lines of a value that is a table
abbrev pub table_lines : Place → Kind → Data → List ℕ
table_lines place kind d = members_lines place kind (as_table d)

-- the elements of a value that is an array
abbrev pub list_or_none : Option (List Data) → List Data
list_or_none None = []
list_or_none (Some ds) = ds

-- the elements of the array that there is
abbrev pub elements_of : Option Data → List Data
elements_of None = []
elements_of (Some d) = list_or_none (as_list d)

-- the windows of step k, from window j on
abbrev pub windows_from : ℕ → ℕ → List Data → List ℕ
windows_from k j [] = []
windows_from k j (d ∷ ds) = table_lines (Window k j) kinds.Window d ++ windows_from k (j + 1) ds

-- the windows of step k, where it shows windows
abbrev pub windows_lines : ℕ → Data → List ℕ
windows_lines k d = if is_word (codes "do") (codes "windows") d then windows_from k 1 (elements_of (get (codes "windows") d)) else []

-- entry k of an array of tables, a step with its windows behind it
abbrev pub entry_lines : Array → ℕ → Data → List ℕ
entry_lines arrays.ExtraDisplays k d = table_lines (ExtraDisplay k) kinds.Display d
entry_lines arrays.Devices k d = table_lines (Device k) (device_kind d) d
entry_lines arrays.Channels k d = table_lines (Channel k) kinds.Channel d
entry_lines arrays.Steps k d = table_lines (Step k) (step_kind d) d ++ windows_lines k d

-- the entries of an array of tables, from entry k on
abbrev pub entries_from : Array → ℕ → List Data → List ℕ
entries_from array k [] = []
entries_from array k (d ∷ ds) = entry_lines array k d ++ entries_from array (k + 1) ds

-- the array of tables at a key
abbrev pub array_lines : Array → Option Data → List ℕ
array_lines array found = entries_from array 1 (elements_of found)

-- the display at its key
abbrev pub display_lines : Option Data → List ℕ
display_lines None = []
display_lines (Some d) = table_lines Display kinds.Display d

-- the lines of a document: its own keys, and then its tables in the order in which a session is read
unfoldable pub document_lines : Data → List ℕ
document_lines d =
    table_lines Top kinds.Top d
    ++ display_lines (get (codes "display") d)
    ++ array_lines arrays.ExtraDisplays (get (codes "extra_display") d)
    ++ array_lines arrays.Devices (get (codes "device") d)
    ++ array_lines arrays.Channels (get (codes "channel") d)
    ++ array_lines arrays.Steps (get (codes "step") d)

-- the lines of a session file; bytes that are no document have none
abbrev pub session_lines : Option Data → List ℕ
session_lines None = []
session_lines (Some d) = document_lines d

-- a line for each key of a session file that nothing reads
abbrev pub unread_text : List ℕ → List ℕ
unread_text bytes = session_lines (parsed bytes)
