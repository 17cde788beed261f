-- Worked cancels, of what a window was sent.
use Rattle.std.specs.Prelude.{ℕ, pos, ◌==◌, ◌||◌, ◌≡◌, Bool, true, false, List, [], ◌∷◌, replicate, refl}
use Rattle.input_types.specs.declared.key.KeyMsg.{KeyMsg}
use Rattle.input_types.specs.declared.message.Body.TheVariants.{Motion as MotionBody, Key}
use Rattle.input_types.specs.declared.motion.Motion.{Motion}
use Rattle.input_types.specs.declared.motion.MotionAction.{MotionAction}
use Rattle.input_types.specs.declared.motion.MotionAction.TheVariants.{Move, Cancel, PointerUp}
use Rattle.input_types.specs.declared.pointer.Pointer.{Pointer}
use Rattle.dispatcher.specs.CancelSynthesis.Tracked.{pointers_after, with_key, keys_after}
use Rattle.dispatcher.specs.CancelSynthesis.Ends.{pointers_cancelled, key_cancelled, all_cancelled}

abbrev at : ℕ → ℕ → ℕ → Pointer
at i x y = record { id = i; at = record { x = pos x; y = pos y } }

abbrev motion : MotionAction → ℕ → ℕ → List Pointer → Motion
motion action index flags ps = record { device = 1; action = action; index = index; flags = flags; pointers = ps }

abbrev key : ℕ → ℕ → Bool → ℕ → ℕ → KeyMsg
key scan code down flags repeat =
    record { key = record { device = 1; scan = scan; code = code; meta = 0; down = down }; flags = flags; repeat = repeat }

abbrev three : List Pointer
three = at 0 1 1 ∷ at 1 2 2 ∷ at 2 3 3 ∷ []

abbrev first_and_third : ℕ → Bool
first_and_third i = i == 0 || i == 2

a_part_is_cancelled_one_up_after_the_other :
    pointers_cancelled 1 first_and_third three
    ≡ motion PointerUp 0 32 three ∷ motion PointerUp 1 32 (at 1 2 2 ∷ at 2 3 3 ∷ []) ∷ []
a_part_is_cancelled_one_up_after_the_other = refl

all_are_cancelled_by_one_cancel : pointers_cancelled 1 (λ i. true) three ≡ motion Cancel 0 0 three ∷ []
all_are_cancelled_by_one_cancel = refl

none_is_cancelled_by_nothing : pointers_cancelled 1 (λ i. false) three ≡ []
none_is_cancelled_by_nothing = refl

an_up_leaves_the_others : pointers_after (motion PointerUp 1 0 three) PointerUp three ≡ at 0 1 1 ∷ at 2 3 3 ∷ []
an_up_leaves_the_others = refl

a_move_sets_the_places : pointers_after (motion Move 0 0 (at 0 5 5 ∷ [])) Move (at 0 1 1 ∷ []) ≡ at 0 5 5 ∷ []
a_move_sets_the_places = refl

keys_stand_in_rising_order : with_key (key 115 24 true 0 0) (key 114 25 true 0 0 ∷ key 116 26 true 0 0 ∷ []) ≡ key 114 25 true 0 0 ∷ key 115 24 true 0 0 ∷ key 116 26 true 0 0 ∷ []
keys_stand_in_rising_order = refl

a_repeat_is_the_last_message : with_key (key 115 24 true 0 1) (key 115 24 true 0 0 ∷ []) ≡ key 115 24 true 0 1 ∷ []
a_repeat_is_the_last_message = refl

a_key_is_cancelled_by_an_up_with_the_flag : key_cancelled (key 115 24 true 0 3) ≡ key 115 24 false 32 0
a_key_is_cancelled_by_an_up_with_the_flag = refl

then_it_is_down_no_more : keys_after (key_cancelled (key 115 24 true 0 3)) (key 115 24 true 0 3 ∷ []) ≡ []
then_it_is_down_no_more = refl

pointers_are_cancelled_before_keys :
    all_cancelled (record { pointers = (at 0 1 1 ∷ []) ∷ replicate 7 []; keys = key 115 24 true 0 0 ∷ []; spare = 0 })
    ≡ MotionBody (motion Cancel 0 0 (at 0 1 1 ∷ [])) ∷ Key (key 115 24 false 32 0) ∷ []
pointers_are_cancelled_before_keys = refl
