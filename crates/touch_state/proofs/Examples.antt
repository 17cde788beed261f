-- Worked rows: since when a window holds something.
use Rattle.std.specs.Prelude.{◌≡◌, true, false, [], ◌∷◌, refl}
use Rattle.bits32.specs.Set.{marked, cleared}
use Rattle.touch_state.specs.declared.row.Row.{Row}
use Rattle.touch_state.specs.Rows.{no_row, after_give, left_with, row_of}

-- two fingers go down in one window at 5 and 7
abbrev two_fingers : Row
two_fingers = after_give true 2 7 (after_give true 0 5 no_row)

they_are_the_ids_0_and_2 : two_fingers.ids ≡ 5
unfolding marked cleared
they_are_the_ids_0_and_2 = refl

it_holds_something_since_the_first : two_fingers.since ≡ 5
unfolding marked cleared
it_holds_something_since_the_first = refl

-- the first goes up and a third one comes at 9
it_still_does_after_the_first_is_gone : (after_give true 1 9 (left_with 4 two_fingers)).since ≡ 5
unfolding marked cleared
it_still_does_after_the_first_is_gone = refl

-- both go up, and then one comes at 9
it_begins_anew_after_both_are_gone : (after_give true 1 9 (left_with 0 two_fingers)).since ≡ 9
unfolding marked cleared
it_begins_anew_after_both_are_gone = refl

a_window_outside_of_the_mask_gets_nothing : after_give false 1 9 two_fingers ≡ two_fingers
a_window_outside_of_the_mask_gets_nothing = refl

windows_go_by_their_channels : (row_of (no_row ∷ two_fingers ∷ []) 2).since ≡ 5
unfolding marked cleared
windows_go_by_their_channels = refl
