-- What contracts see of the keys of a device.
use Rattle.std.specs.Prelude.{◌≡◌, ℕ, ◌+◌, ◌-◌, ◌<◌, ◌||◌, nat_eq, nat_lt, Bool, List, Some, None, if◌then◌else◌}
use Rattle.std.specs.List.{list_any, count_by}
use Rattle.std.specs.List.Sorted.{IsStrictlySortedBy}
use Rattle.std.specs.Map.{keys_of, values_of}
use Rattle.std.specs.Ordering.{nat_cmp}
use Rattle.key_layout.specs.Layout.{Codes, found_at, code_at}
use Rattle.key_mapper.specs.declared.modifiers.Modifiers.{Modifiers}
use Rattle.key_mapper.specs.Key.{KeyEvent, is_down, bits_where, meta_bits}

-- the device, its layout, and the keys that are down with their key codes, in rising scan code
pub record Held : Type 0 where
  pub device : ℕ
  pub layout : Codes
  pub down : Codes

-- the keys that are down are those of these events, with their codes by the layout
abbrev pub KeysStandFor : List KeyEvent → Held → Type 0
KeysStandFor past k = (scan : ℕ) → found_at k.down scan ≡ (if is_down scan past then Some (code_at k.layout scan) else None)

-- how many of some key codes are this one
abbrev pub count : ℕ → List ℕ → ℕ
count code codes = count_by (λ c. nat_eq c code) codes

-- how many keys are down of each code that sets meta bits
abbrev pub counts : Codes → Modifiers
counts down = record {
  alt_left = count 57 (values_of down);
  alt_right = count 58 (values_of down);
  shift_left = count 59 (values_of down);
  shift_right = count 60 (values_of down);
  ctrl_left = count 113 (values_of down);
  ctrl_right = count 114 (values_of down);
}

-- one number more where a key has this code
abbrev pub more : ℕ → ℕ → ℕ → ℕ
more code c n = if nat_eq c code then n + 1 else n

-- one number less where a key has this code
abbrev pub fewer : ℕ → ℕ → ℕ → ℕ
fewer code c n = if nat_eq c code then n - 1 else n

-- one more key with this code is down, where it is a modifier
abbrev pub with_key : Modifiers → ℕ → Modifiers
with_key m c = record {
  alt_left = more 57 c m.alt_left;
  alt_right = more 58 c m.alt_right;
  shift_left = more 59 c m.shift_left;
  shift_right = more 60 c m.shift_right;
  ctrl_left = more 113 c m.ctrl_left;
  ctrl_right = more 114 c m.ctrl_right;
}

-- one key less with this code is down, where it is a modifier
abbrev pub without_key : Modifiers → ℕ → Modifiers
without_key m c = record {
  alt_left = fewer 57 c m.alt_left;
  alt_right = fewer 58 c m.alt_right;
  shift_left = fewer 59 c m.shift_left;
  shift_right = fewer 60 c m.shift_right;
  ctrl_left = fewer 113 c m.ctrl_left;
  ctrl_right = fewer 114 c m.ctrl_right;
}

-- every number is below a bound
pub record AreBelow (n : ℕ) (m : Modifiers) : Type 0 where
  pub alt_left : m.alt_left < n
  pub alt_right : m.alt_right < n
  pub shift_left : m.shift_left < n
  pub shift_right : m.shift_right < n
  pub ctrl_left : m.ctrl_left < n
  pub ctrl_right : m.ctrl_right < n

-- the number of keys of a code that sets meta bits, and 0 for another code
abbrev pub number_of : Modifiers → ℕ → ℕ
number_of m code =
    if nat_eq code 57 then m.alt_left
    else if nat_eq code 58 then m.alt_right
    else if nat_eq code 59 then m.shift_left
    else if nat_eq code 60 then m.shift_right
    else if nat_eq code 113 then m.ctrl_left
    else if nat_eq code 114 then m.ctrl_right
    else 0

-- the meta bits that are set by keys of which some are down
abbrev pub bits : Modifiers → ℕ
bits m = bits_where (λ codes. list_any (λ code. nat_lt 0 (number_of m code)) codes) meta_bits

-- a key code sets meta bits: it is one of `meta_bits`
abbrev pub sets_meta : ℕ → Bool
sets_meta c = nat_eq c 57 || (nat_eq c 58 || (nat_eq c 59 || (nat_eq c 60 || (nat_eq c 113 || nat_eq c 114))))

-- the keys that are down stand in rising scan code, those that set meta bits are counted, and those are the bits
pub record IsHeld (down : Codes) (modifiers : Modifiers) (meta : ℕ) : Type 0 where
  pub ordered : IsStrictlySortedBy nat_cmp (keys_of down)
  pub counted : modifiers ≡ counts down
  pub told : meta ≡ bits modifiers
