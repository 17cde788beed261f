-- The keys that are read of each kind of table of a session.
use Rattle.std.specs.Prelude.{ℕ, codes, Bool, false, if◌then◌else◌, List, [], ◌∷◌, Option, Some, None}
use Rattle.std.specs.List.{list_any}
use Rattle.std.specs.Str.{bytes_eq}
use Rattle.toml.specs.Data.{Data, get, as_str}
use Rattle.unread_keys.specs.declared.names.Kind.{Kind}
use Rattle.unread_keys.specs.declared.names.Kind.TheVariants.{Top, Display, Touch, Keys, Channel, Windows, Focus, Pilfer, Remove, Window}

-- a key is one of these
abbrev pub is_among : List ℕ → List (List ℕ) → Bool
is_among key names = list_any (λ n. bytes_eq key n) names

-- the keys that are read of a table
abbrev pub names_of : Kind → List (List ℕ)
names_of Top =
    codes "display" ∷ codes "extra_display" ∷ codes "end_us" ∷ codes "repeat_us" ∷ codes "repeat" ∷ codes "device" ∷ codes "channel" ∷ codes "step" ∷ []
names_of Display = codes "width" ∷ codes "height" ∷ codes "rotation" ∷ []
names_of Touch = codes "kind" ∷ codes "path" ∷ codes "display" ∷ codes "slots" ∷ codes "x" ∷ codes "y" ∷ []
names_of Keys = codes "kind" ∷ codes "path" ∷ codes "layout" ∷ []
names_of Channel = codes "name" ∷ codes "limit_ms" ∷ codes "finish_after_us" ∷ codes "finishes" ∷ []
names_of Windows = codes "at_us" ∷ codes "lane" ∷ codes "do" ∷ codes "windows" ∷ []
names_of Focus = codes "at_us" ∷ codes "lane" ∷ codes "do" ∷ codes "display" ∷ codes "channel" ∷ []
names_of Pilfer = codes "at_us" ∷ codes "lane" ∷ codes "do" ∷ codes "channel" ∷ codes "device" ∷ []
names_of Remove = codes "at_us" ∷ codes "lane" ∷ codes "do" ∷ codes "channel" ∷ []
names_of Window =
    codes "wall" ∷ codes "channel" ∷ codes "display" ∷ codes "frame" ∷ codes "region" ∷ codes "flags" ∷ codes "owner" ∷ codes "opacity" ∷ codes "occlusion" ∷ []

-- a key is read
abbrev pub is_read : Kind → List ℕ → Bool
is_read kind key = is_among key (names_of kind)

-- a text is this word
abbrev pub is_written : List ℕ → Option (List ℕ) → Bool
is_written word None = false
is_written word (Some text) = bytes_eq text word

-- a value is this word
abbrev pub is_value : List ℕ → Option Data → Bool
is_value word None = false
is_value word (Some d) = is_written word (as_str d)

-- this word stands at a key
abbrev pub is_word : List ℕ → List ℕ → Data → Bool
is_word key word d = is_value word (get key d)

-- the kind of a device's table
abbrev pub device_kind : Data → Kind
device_kind d = if is_word (codes "kind") (codes "touch") d then Touch else Keys

-- the kind of a step's table
abbrev pub step_kind : Data → Kind
step_kind d =
    if is_word (codes "do") (codes "windows") d then Windows
    else if is_word (codes "do") (codes "focus") d then Focus
    else if is_word (codes "do") (codes "pilfer") d then Pilfer
    else Remove
