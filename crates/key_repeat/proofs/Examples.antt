-- When a held key is repeated, computed.
use Rattle.std.specs.Prelude.{◌≡◌, ℕ, Bool, true, false, Some, None, refl}
use Rattle.key_repeat.specs.declared.delays.Repeats.{Repeats}
use Rattle.key_repeat.specs.Due.{Sent, android_delays, due_of}

abbrev sent : Bool → ℕ → ℕ → Sent
sent down repeat clock = record {
  channel = 1;
  key = record { key = record { device = 1; scan = 115; code = 24; meta = 0; down = down }; flags = 0; repeat = repeat };
  clock = clock;
}

pub first_repeat : due_of (Some android_delays) (Some (sent true 0 1000000)) ≡ Some 1500000
first_repeat = refl

pub second_repeat : due_of (Some android_delays) (Some (sent true 1 1500000)) ≡ Some 1550000
second_repeat = refl

pub none_after_an_up : due_of (Some android_delays) (Some (sent false 0 1600000)) ≡ None
none_after_an_up = refl

pub none_after_the_greatest : due_of (Some android_delays) (Some (sent true 4294967295 0)) ≡ None
none_after_the_greatest = refl

-- a terminal that asked for 660 milliseconds and then 40
abbrev own : Repeats
own = record { first = 660000; next = 40000 }

pub own_first_delay : due_of (Some own) (Some (sent true 0 1000000)) ≡ Some 1660000
own_first_delay = refl

pub own_next_delay : due_of (Some own) (Some (sent true 1 1660000)) ≡ Some 1700000
own_next_delay = refl

pub none_without_repeats : due_of None (Some (sent true 0 1000000)) ≡ None
none_without_repeats = refl
