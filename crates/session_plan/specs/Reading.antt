-- How values are read at the keys of a table.
use Rattle.std.specs.Prelude.{ℕ, ℤ, pos, negsuc, nat_abs, nat_le, int_le, ◌+◌, ◌&&◌, Bool, cond, if◌then◌else◌, List, [], ◌∷◌, ◌++◌, length, Option, Some, None, is_some, Result, Ok, Err}
use Rattle.std.specs.List.{list_all}
use Rattle.std.specs.Option.{option_map}
use Rattle.std.specs.Str.{is_utf8}
use Rattle.toml.specs.Data.{Data, array, table, Items, no_items, item, get, as_str, as_integer, as_table}
use Rattle.toml.specs.Parse.{parse_document}
use Rattle.session_plan.specs.declared.key.Place.{Place}
use Rattle.session_plan.specs.Fault.{Fault, ◌>>=◌, not_toml, missing, wrong, out_of_range}
use Rattle.session_plan.specs.Keys.{key_of}

-- the bytes as one table
abbrev pub parsed : List ℕ → Option Data
parsed bytes = cond (is_utf8 bytes) (option_map table (parse_document bytes)) None

-- the table, where there is one
abbrev pub document_of : Option Data → Result Data Fault
document_of None = Err not_toml
document_of (Some d) = Ok d

-- whether a value is a table
abbrev pub is_table : Data → Bool
is_table d = is_some (as_table d)

-- the elements one after another
abbrev pub list_of : Items → List Data
list_of no_items = []
list_of (item d ds) = d ∷ list_of ds

-- the elements of a value that is an array
abbrev pub as_list : Data → Option (List Data)
as_list (array ds) = Some (list_of ds)
as_list d = None

-- what has to be there
abbrev pub required : List ℕ → Option Data → Result Data Fault
required key None = Err (missing key)
required key (Some d) = Ok d

-- what has to be of this kind
abbrev pub of_kind : {A : Type 0} → List ℕ → Option A → Result A Fault
of_kind key None = Err (wrong key)
of_kind key (Some x) = Ok x

-- what has to be so
abbrev pub needs : List ℕ → Bool → Result (Unit {0}) Fault
needs key b = if b then Ok tt else Err (wrong key)

-- the default where nothing stands, else what is read
abbrev pub or_default : {A : Type 0} → A → Option Data → (Data → Result A Fault) → Result A Fault
or_default x None read = Ok x
or_default x (Some d) read = read d

-- a number from low, which is not negative, to high
abbrev pub in_range : List ℕ → ℤ → ℤ → ℤ → Result ℕ Fault
in_range key low high z = if int_le low z && int_le z high then Ok (nat_abs z) else Err (out_of_range key z)

-- a number of 32 bits with a sign
abbrev pub coordinate : List ℕ → ℤ → Result ℤ Fault
coordinate key z = if int_le (negsuc 2147483647) z && int_le z (pos 2147483647) then Ok z else Err (out_of_range key z)

-- an integer from low to high
unfoldable pub number : List ℕ → ℤ → ℤ → Data → Result ℕ Fault
number key low high d = of_kind key (as_integer d) >>= λ z. in_range key low high z

-- the number at a key
unfoldable pub number_at : Place → List ℕ → ℤ → ℤ → Data → Result ℕ Fault
number_at place key low high d = required (key_of place key) (get key d) >>= λ found. number (key_of place key) low high found

-- the number at a key, or a default where nothing stands there
unfoldable pub number_or : ℕ → Place → List ℕ → ℤ → ℤ → Data → Result ℕ Fault
number_or default place key low high d = or_default default (get key d) (λ found. number (key_of place key) low high found)

-- the text at a key
unfoldable pub text_at : Place → List ℕ → Data → Result (List ℕ) Fault
text_at place key d = required (key_of place key) (get key d) >>= λ found. of_kind (key_of place key) (as_str found)

-- the array of tables that a value is
unfoldable pub tables : List ℕ → Data → Result (List Data) Fault
tables key d = do
  ds ← of_kind key (as_list d)
  all ← needs key (list_all is_table ds)
  Ok ds

-- the array of tables at a key, or none where nothing stands there
unfoldable pub tables_at : Place → List ℕ → Data → Result (List Data) Fault
tables_at place key d = or_default [] (get key d) (λ found. tables (key_of place key) found)

-- at most so many
abbrev pub at_most : List ℕ → ℕ → List Data → Result (Unit {0}) Fault
at_most key most ds = if nat_le (length ds) most then Ok tt else Err (out_of_range key (pos (length ds)))

-- what the entries of an array say, each read by its number, from k on, and by what those before it say
abbrev pub each : {A : Type 0} → (ℕ → List A → Data → Result A Fault) → ℕ → List A → List Data → Result (List A) Fault
each read k found [] = Ok found
each read k found (d ∷ ds) = read k found d >>= λ x. each read (k + 1) (found ++ x ∷ []) ds
