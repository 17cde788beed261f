-- What the key events of a device give. Events stand with the newest first.
use Rattle.std.specs.Prelude.{ℕ, ◌+◌, ◌&&◌, ◌||◌, nat_eq, Bool, false, ℤ, pos, List, [], ◌∷◌, Option, Some, None, if◌then◌else◌, not}
use Rattle.std.specs.List.{list_any}
use Rattle.std.specs.Ordering.{int_eq}
use Rattle.input_types.specs.declared.key.KeyArgs.{KeyArgs}
use Rattle.key_layout.specs.Layout.{Codes, code_at}

-- an EV_KEY event: its scan code, and its value
pub record KeyEvent : Type 0 where
  pub scan : ℕ
  pub value : ℤ

-- the key goes down
abbrev pub is_press : KeyEvent → Bool
is_press e = int_eq e.value (pos 1)

-- the key goes up
abbrev pub is_release : KeyEvent → Bool
is_release e = int_eq e.value (pos 0)

-- a key is down where the last of its events with value 0 or 1 has value 1
abbrev pub is_down : ℕ → List KeyEvent → Bool
is_down scan [] = false
is_down scan (e ∷ past) = if nat_eq scan e.scan && (is_press e || is_release e) then is_press e else is_down scan past

-- a key that is down has one of these key codes
abbrev pub has_down : Codes → List KeyEvent → List ℕ → Bool
has_down layout past codes = list_any (λ e. is_down e.scan past && list_any (λ code. nat_eq code (code_at layout e.scan)) codes) past

-- the meta bits of KeyEvent, each with the key codes that set it: either SHIFT, either ALT, ALT_LEFT, ALT_RIGHT, SHIFT_LEFT, SHIFT_RIGHT,
-- either CTRL, CTRL_LEFT and CTRL_RIGHT
abbrev pub meta_bits : List (ℕ × List ℕ)
meta_bits =
    (0x1, 59 ∷ 60 ∷ []) ∷ (0x2, 57 ∷ 58 ∷ []) ∷ (0x10, 57 ∷ []) ∷ (0x20, 58 ∷ []) ∷ (0x40, 59 ∷ []) ∷ (0x80, 60 ∷ [])
    ∷ (0x1000, 113 ∷ 114 ∷ []) ∷ (0x2000, 113 ∷ []) ∷ (0x4000, 114 ∷ []) ∷ []

-- the number whose bits are those of the rows that pass a test of their key codes
abbrev pub bits_where : (List ℕ → Bool) → List (ℕ × List ℕ) → ℕ
bits_where test [] = 0
bits_where test (row ∷ rows) = (if test row.1 then row.0 else 0) + bits_where test rows

-- the union of the meta bits of all keys that are down: each bit is set exactly where a key that is down sets it
abbrev pub meta_of : Codes → List KeyEvent → ℕ
meta_of layout past = bits_where (has_down layout past) meta_bits

-- an event changes what is down: a press of a key that is up, or a release of one that is down
abbrev pub changes : List KeyEvent → KeyEvent → Bool
changes past e = (is_press e && not (is_down e.scan past)) || (is_release e && is_down e.scan past)

-- what an event of a device gives: the key where the event changes what is down, with the meta bits of the keys that are down after it
abbrev pub key_args_of : ℕ → Codes → List KeyEvent → KeyEvent → Option KeyArgs
key_args_of device layout past e =
    if changes past e then Some (record { device = device; scan = e.scan; code = code_at layout e.scan; meta = meta_of layout (e ∷ past); down = is_press e })
    else None
