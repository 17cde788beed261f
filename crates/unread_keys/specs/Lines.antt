-- The lines of the keys that nothing reads.
use Rattle.std.specs.Prelude.{ℕ, codes, ◌&&◌, not, nat_le, nat_lt, Bool, if◌then◌else◌, List, [], ◌∷◌, ◌++◌, length, filter}
use Rattle.std.specs.List.{list_all, flat_map}
use Rattle.std.specs.Fmt.{decimal}
use Rattle.toml.specs.Data.{Members, no_members, member}
use Rattle.unread_keys.specs.declared.names.Kind.{Kind}
use Rattle.unread_keys.specs.declared.place.Place.{Place}
use Rattle.unread_keys.specs.declared.place.Place.TheVariants.{Top, Display, ExtraDisplay, Device, Channel, Step, Window}
use Rattle.unread_keys.specs.Names.{is_read}

-- entry k of an array of tables, as `device[1].`
abbrev pub entry_text : List ℕ → ℕ → List ℕ
entry_text array k = array ++ codes "[" ++ decimal k ++ codes "]."

-- a table by its path, in front of its keys
abbrev pub place_text : Place → List ℕ
place_text Top = []
place_text Display = codes "display."
place_text (ExtraDisplay k) = entry_text (codes "extra_display") k
place_text (Device k) = entry_text (codes "device") k
place_text (Channel k) = entry_text (codes "channel") k
place_text (Step k) = entry_text (codes "step") k
place_text (Window k j) = entry_text (codes "step") k ++ entry_text (codes "windows") j

-- a key has bytes, each of them from `!` to `~`
abbrev pub is_plain : List ℕ → Bool
is_plain key = nat_lt 0 (length key) && list_all (λ b. nat_le 33 b && nat_le b 126) key

-- a key as its bytes are, where it is plain, and `?` else
abbrev pub spelled : List ℕ → List ℕ
spelled key = if is_plain key then key else codes "?"

-- the line of a key
abbrev pub key_line : Place → List ℕ → List ℕ
key_line place key = codes "key " ++ place_text place ++ spelled key ++ codes "\n"

-- the keys of a table, in rising order of their bytes
abbrev pub keys_of : Members → List (List ℕ)
keys_of no_members = []
keys_of (member key value more) = key ∷ keys_of more

-- those of a table of this kind that nothing reads
abbrev pub unread : Kind → Members → List (List ℕ)
unread kind members = filter (λ key. not (is_read kind key)) (keys_of members)

-- a line for each of them
abbrev pub unread_lines : Place → Kind → Members → List ℕ
unread_lines place kind members = flat_map (λ key. key_line place key) (unread kind members)
