-- The names of key codes.
use Rattle.std.specs.Prelude.{ℕ, ◌==◌, nat_le, Bool, ◌&&◌, ◌||◌, if◌then◌else◌, List, [], ◌∷◌, codes}
use Rattle.std.specs.List.{list_all}
use Rattle.std.specs.Str.{bytes_eq}

-- a capital letter, a digit or an underscore
abbrev pub is_name_byte : ℕ → Bool
is_name_byte b = (nat_le 65 b && nat_le b 90) || ((nat_le 48 b && nat_le b 57) || b == 95)

-- a name consists of capital letters, digits and underscores
abbrev pub is_name : List ℕ → Bool
is_name bs = list_all is_name_byte bs

-- each name that has a code, with the code that Android's KeyEvent gives it as KEYCODE_ and the name
unfoldable pub key_table : List (List ℕ × ℕ)
key_table =
    (codes "UNKNOWN", 0) ∷ (codes "HOME", 3) ∷ (codes "BACK", 4) ∷ (codes "0", 7) ∷ (codes "1", 8) ∷ (codes "2", 9) ∷ (codes "3", 10) ∷
    (codes "4", 11) ∷ (codes "5", 12) ∷ (codes "6", 13) ∷ (codes "7", 14) ∷ (codes "8", 15) ∷ (codes "9", 16) ∷ (codes "VOLUME_UP", 24) ∷
    (codes "VOLUME_DOWN", 25) ∷ (codes "POWER", 26) ∷ (codes "A", 29) ∷ (codes "B", 30) ∷ (codes "C", 31) ∷ (codes "D", 32) ∷ (codes "E", 33) ∷
    (codes "F", 34) ∷ (codes "G", 35) ∷ (codes "H", 36) ∷ (codes "I", 37) ∷ (codes "J", 38) ∷ (codes "K", 39) ∷ (codes "L", 40) ∷ (codes "M", 41) ∷
    (codes "N", 42) ∷ (codes "O", 43) ∷ (codes "P", 44) ∷ (codes "Q", 45) ∷ (codes "R", 46) ∷ (codes "S", 47) ∷ (codes "T", 48) ∷ (codes "U", 49) ∷
    (codes "V", 50) ∷ (codes "W", 51) ∷ (codes "X", 52) ∷ (codes "Y", 53) ∷ (codes "Z", 54) ∷ (codes "ALT_LEFT", 57) ∷ (codes "ALT_RIGHT", 58) ∷
    (codes "SHIFT_LEFT", 59) ∷ (codes "SHIFT_RIGHT", 60) ∷ (codes "TAB", 61) ∷ (codes "SPACE", 62) ∷ (codes "ENTER", 66) ∷ (codes "DEL", 67) ∷
    (codes "MENU", 82) ∷ (codes "ESCAPE", 111) ∷ (codes "CTRL_LEFT", 113) ∷ (codes "CTRL_RIGHT", 114) ∷ []

-- the code beside a name; 0 if the name is not in the table
abbrev pub code_in : List (List ℕ × ℕ) → List ℕ → ℕ
code_in [] name = 0
code_in (entry ∷ entries) name = if bytes_eq entry.0 name then entry.1 else code_in entries name

-- the code of a name, by the table of names
unfoldable pub code_of_name : List ℕ → ℕ
code_of_name name = code_in key_table name
