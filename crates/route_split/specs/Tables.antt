-- The tables of all devices, and the scene that they stand for.
use Rattle.std.specs.Prelude.{ℕ, ◌-◌, Bool, true, false, ◌&&◌, ◌≡◌, nat_le, nat_lt, if◌then◌else◌, List, [], length, slice_index_or}
use Rattle.routing_rules.specs.Scene.{Scene}
use Rattle.touch_state.specs.Touches.{Touches, Changes, held, holds, any, since, pilfering}

-- devices have the numbers 1 to 8
abbrev pub is_device : ℕ → Bool
is_device d = nat_le 1 d && nat_le d 8

-- the table of a number that is no device's: no window holds anything
abbrev pub no_table : Touches
no_table = record { device = 0; rows = []; pilferers = 0 }

-- the table of a device, that of device 1 being the first
abbrev pub table_of : List Touches → ℕ → Touches
table_of ts d = if is_device d then slice_index_or ts (d - 1) no_table else no_table

-- the window holds the pointer of the device with this id
abbrev pub holds_at : List Touches → (window device id : ℕ) → Bool
holds_at ts w d i = holds (table_of ts d) w i

-- it holds some pointer of the device
abbrev pub any_at : List Touches → (window device : ℕ) → Bool
any_at ts w d = any (table_of ts d) w

-- of two windows that hold something, the first began at an earlier index
abbrev pub is_earlier : Touches → (v w : ℕ) → Bool
is_earlier t v w = any t v && any t w && nat_lt (since t v) (since t w)

-- window v began to hold something of the device before window w did
abbrev pub earlier_at : List Touches → (v w device : ℕ) → Bool
earlier_at ts v w d = is_earlier (table_of ts d) v w

-- the window is pilfering the device
abbrev pub pilfering_at : List Touches → (window device : ℕ) → Bool
pilfering_at ts w d = pilfering (table_of ts d) w

-- The tables stand for a scene: they agree with it on who holds what, which of two began first, and who is pilfering.
pub record Stands (s : Scene) (ts : List Touches) : Type 0 where
  pub holds_are : s.holds ≡ holds_at ts
  pub any_are : s.any ≡ any_at ts
  pub earlier_are : s.earlier ≡ earlier_at ts
  pub pilfering_are : s.pilfering ≡ pilfering_at ts

-- there are eight tables, and a pilfering window holds something
pub record IsTables (ts : List Touches) : Type 0 where
  pub eight : length ts ≡ 8
  pub within : (d w : ℕ) → pilfering (table_of ts d) w ≡ true → any (table_of ts d) w ≡ true

-- no window holds anything, or ever did
pub record IsFresh (t : Touches) : Type 0 where
  pub held_is : (w : ℕ) → held t w ≡ 0
  pub since_is : (w : ℕ) → since t w ≡ 0
  pub pilfering_is : (w : ℕ) → pilfering t w ≡ false

-- each table changes by what is given and taken of its device, at one index
abbrev pub ChangesAll : (old new : List Touches) (gives takes : (window device id : ℕ) → Bool) (place : ℕ) (pilfers : (window device : ℕ) → Bool) → Type 0
ChangesAll old new gives takes place pilfers =
    (d : ℕ) → Changes (table_of old d) (table_of new d) (λ w i. gives w d i) (λ w i. takes w d i) place (λ w. pilfers w d)
