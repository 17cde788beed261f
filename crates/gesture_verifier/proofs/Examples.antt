-- Worked tables, computed: pointers 0 and 2 are down on device 1, pointer 4 on device 3, the key 0 of device 4 went
-- down once, and the key 1 of device 2 was repeated once.
use Rattle.std.specs.Prelude.{◌≡◌, ℕ, List, [], ◌∷◌, Some, None, true, false, refl}
use Rattle.bits32.specs.Set.{members_below}
use Rattle.gesture_verifier.specs.declared.held.HeldKey.{HeldKey}
use Rattle.gesture_verifier.specs.Held.{are_rising, is_held}
use Rattle.gesture_verifier.specs.Told.{Told, state_of, one_more}

abbrev told : Told
told = record { sets = 5 ∷ 0 ∷ 16 ∷ 0 ∷ 0 ∷ 0 ∷ 0 ∷ 0 ∷ []; repeats = (65537, 2) ∷ (196608, 1) ∷ []; focus = true; accepted = 5 }

pub two_fingers : (state_of told).ids 1 ≡ 0 ∷ 2 ∷ []
unfolding members_below
two_fingers = refl

pub another_device : (state_of told).ids 3 ≡ 4 ∷ []
unfolding members_below
another_device = refl

pub no_device : (state_of told).ids 0 ≡ []
no_device = refl

pub key_held : (state_of told).repeats 2 1 ≡ Some 2
key_held = refl

pub key_of_another_device : (state_of told).repeats 4 0 ≡ Some 1
key_of_another_device = refl

pub key_up : (state_of told).repeats 1 1 ≡ None
key_up = refl

pub key_never_sent : (state_of told).repeats 1 700 ≡ None
key_never_sent = refl

pub stands_still : one_more 18446744073709551615 ≡ 18446744073709551615
stands_still = refl

-- keys that are down, in the order in which they are sent
abbrev key : ℕ → ℕ → HeldKey
key device scan = record { device = device; scan = scan }

abbrev keys_down : List HeldKey
keys_down = key 2 1 ∷ key 2 30 ∷ key 4 0 ∷ []

pub devices_come_first : are_rising keys_down ≡ true
devices_come_first = refl

pub scan_codes_rise : are_rising (key 2 30 ∷ key 2 1 ∷ []) ≡ false
scan_codes_rise = refl

pub sent_once : are_rising (key 2 1 ∷ key 2 1 ∷ []) ≡ false
sent_once = refl

pub key_of_one_device : is_held 2 30 keys_down ≡ true
key_of_one_device = refl

pub key_of_no_other_device : is_held 4 30 keys_down ≡ false
key_of_no_other_device = refl
