-- A keyboard with SHIFT_LEFT at scan code 42 and A at 30, and volume keys, computed. The newest event stands first.
use Rattle.std.specs.Prelude.{◌≡◌, ℕ, true, false, pos, [], ◌∷◌, Some, None, refl}
use Rattle.key_layout.specs.Layout.{Codes}
use Rattle.key_mapper.specs.Key.{KeyEvent, key_args_of, meta_of}
use Rattle.key_mapper.specs.Held.{sets_meta}

abbrev keyboard : Codes
keyboard = (30, 29) ∷ (42, 59) ∷ []

abbrev press : ℕ → KeyEvent
press scan = record { scan = scan; value = pos 1 }

abbrev release : ℕ → KeyEvent
release scan = record { scan = scan; value = pos 0 }

pub shift_has_its_own_bits : key_args_of 1 keyboard [] (press 42) ≡ Some (record { device = 1; scan = 42; code = 59; meta = 65; down = true })
shift_has_its_own_bits = refl

pub a_under_shift : key_args_of 1 keyboard (press 42 ∷ []) (press 30) ≡ Some (record { device = 1; scan = 30; code = 29; meta = 65; down = true })
a_under_shift = refl

pub meta_is_after_the_event : key_args_of 1 keyboard (press 30 ∷ press 42 ∷ []) (release 42) ≡ Some (record { device = 1; scan = 42; code = 59; meta = 0; down = false })
meta_is_after_the_event = refl

pub kernel_repeats_are_passed_over : key_args_of 1 keyboard (press 42 ∷ []) (record { scan = 42; value = pos 2 }) ≡ None
kernel_repeats_are_passed_over = refl

pub a_second_press_gives_nothing : key_args_of 1 keyboard (press 30 ∷ []) (press 30) ≡ None
a_second_press_gives_nothing = refl

pub a_release_without_a_press_gives_nothing : key_args_of 1 keyboard (release 30 ∷ press 30 ∷ []) (release 30) ≡ None
a_release_without_a_press_gives_nothing = refl

-- a scan code that the layout does not have gives code 0
pub unknown_key : key_args_of 1 ((115, 24) ∷ []) (release 115 ∷ press 115 ∷ []) (press 999) ≡ Some (record { device = 1; scan = 999; code = 0; meta = 0; down = true })
unknown_key = refl

-- two keys of code SHIFT_LEFT: the bits stay while one of them is down
pub either_key_sets_the_bit : meta_of ((1, 59) ∷ (2, 59) ∷ []) (release 1 ∷ press 2 ∷ press 1 ∷ []) ≡ 65
either_key_sets_the_bit = refl

-- both SHIFT keys, CTRL_RIGHT and ALT_RIGHT
pub bits_join : meta_of ((1, 59) ∷ (2, 60) ∷ (3, 114) ∷ (4, 58) ∷ []) (press 4 ∷ press 3 ∷ press 2 ∷ press 1 ∷ []) ≡ 0x50e3
bits_join = refl

-- SHIFT_LEFT sets meta bits, and A sets none
pub shift_sets_bits : sets_meta 59 ≡ true
shift_sets_bits = refl

pub a_sets_none : sets_meta 29 ≡ false
a_sets_none = refl
