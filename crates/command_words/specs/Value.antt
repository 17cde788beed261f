-- What the value of an option must be.
use Rattle.std.specs.Prelude.{codes, ℕ, ◌==◌, nat_le, Bool, true, false, not, ◌&&◌, ◌||◌, if◌then◌else◌, List, [], ◌∷◌, length, bytes_eq, is_some, Option, Some, None}
use Rattle.std.specs.Char.{is_ascii_digit}
use Rattle.std.specs.List.{list_all}
use Rattle.std.specs.Str.{byte}
use Rattle.std.specs.Str.Parse.{digits_value}

-- a value is not empty and does not begin with `-`
abbrev pub is_value : List ℕ → Bool
is_value [] = false
is_value (b ∷ bs) = not (b == byte "-")

-- the only value, if there is exactly one and it is allowed
abbrev pub only : List (List ℕ) → Option (List ℕ)
only (value ∷ []) = if is_value value then Some value else None
only _ = None

-- a path begins with a slash and has no space or tab
abbrev pub is_path : List ℕ → Bool
is_path [] = false
is_path (b ∷ bs) = b == byte "/" && list_all (λ c. not (c == 32 || c == 9)) bs

-- a value that is a path
abbrev pub path : List ℕ → Option (List ℕ)
path value = if is_path value then Some value else None

-- 1 to 10 decimal digits, and nothing else
abbrev pub is_numeral : List ℕ → Bool
is_numeral value = (nat_le 1 (length value) && nat_le (length value) 10) && list_all is_ascii_digit value

-- n, if it is in a range
abbrev pub within : ℕ → ℕ → ℕ → Option ℕ
within low high n = if nat_le low n && nat_le n high then Some n else None

-- the number from low to high that a value writes in 1 to 10 decimal digits, leading zeros allowed
unfoldable pub number : ℕ → ℕ → List ℕ → Option ℕ
number low high value = if is_numeral value then within low high (digits_value 10 value) else None

-- `each` for each move a point, and `none` for no move
unfoldable pub moves : List ℕ → Option Bool
moves value = if bytes_eq value (codes "each") then Some true else if bytes_eq value (codes "none") then Some false else None

-- A value that is not empty and does not begin with `-` is one that the option with a name takes: numbers have their
-- ranges, a mouse is a path, moves are `none` or `each`, and any is a file.
unfoldable pub fits : List ℕ → List ℕ → Bool
fits name value =
    if bytes_eq name (codes "--seed") then is_some (number 0 4294967295 value)
    else if bytes_eq name (codes "--packets") then is_some (number 1 200000 value)
    else if bytes_eq name (codes "--frame") then is_some (number 1 1000000000 value)
    else if bytes_eq name (codes "--mouse") then is_path value
    else if bytes_eq name (codes "--channel") then is_some (number 1 64 value)
    else if bytes_eq name (codes "--device") then is_some (number 1 8 value)
    else if bytes_eq name (codes "--us") then is_some (number 0 1000000000 value)
    else if bytes_eq name (codes "--pixels") then is_some (number 0 16384 value)
    else if bytes_eq name (codes "--want-channel") then is_some (number 1 64 value)
    else if bytes_eq name (codes "--got-channel") then is_some (number 1 64 value)
    else if bytes_eq name (codes "--moves") then is_some (moves value)
    else true

-- the option with a name takes a value
unfoldable pub takes : List ℕ → List ℕ → Bool
takes name value = is_value value && fits name value
