-- Worked examples of the text of a finger that goes down where windows of other owners lie over the touched one. The display has
-- 1080 by 2400 pixels, each window has all of it, and the finger is at 540,1200. All of them compute.
use Rattle.std.specs.Prelude.{codes, ◌≡◌, ℕ, List, [], ◌∷◌, ◌++◌, reverse, refl}
use Rattle.std.specs.Fmt.{digits}
use Rattle.input_types.specs.declared.motion.MotionAction.TheVariants.{Down}
use Rattle.window_snapshot.specs.declared.occlusion.Occlusion.TheVariants.{Allow, Block, Opacity}
use Rattle.window_snapshot.specs.declared.window.Window.{Window}
use Rattle.dispatch_calls.specs.declared.call.Call.TheVariants.{Open, Windows}
use Rattle.routing_rules.proofs.Worked.{owned}
use Rattle.dispatch_history.specs.Legal.{run}
use Rattle.dispatch_history.proofs.Worked.{usual, window, at, moved, open_two, one_display}
use Rattle.why_text.specs.Words.{channels_that, ids_that}
use Rattle.why_text.specs.Text.{why_text}

-- a window of all of the display
abbrev all : (channel flags : ℕ) → Window
all c f = window c f 0 0 1080 2400

-- the text of such windows and the finger
abbrev why_under : List Window → List ℕ
why_under windows =
    why_text one_display (run one_display (reverse (open_two ++ Open usual ∷ Windows 0 windows ∷ [] ++ moved 1000000 Down 0 (at 0 540 1200 ∷ []))))

abbrev two_shown : List ℕ
two_shown = codes "0 windows 1@0:0,0,1080,2400 2@0:0,0,1080,2400\n"

abbrev three_shown : List ℕ
three_shown = codes "0 windows 1@0:0,0,1080,2400 2@0:0,0,1080,2400 3@0:0,0,1080,2400\n"

-- 1 is NOT_TOUCHABLE
a_window_blocks :
    why_under (owned 1 100 Block (all 1 1) ∷ owned 2 100 Block (all 2 0) ∷ [])
    ≡ two_shown ++ codes "1000000 down 1 0 540,1200 touched 2 row first chosen 2 spies - pilfering - given - mute - outside - blocked 2 by 1\n"
unfolding digits channels_that ids_that
a_window_blocks = refl

a_window_that_allows_touches_does_not :
    why_under (owned 1 100 Allow (all 1 1) ∷ owned 2 100 Block (all 2 0) ∷ [])
    ≡ two_shown ++ codes "1000000 down 1 0 540,1200 touched 2 row first chosen 2 spies - pilfering - given 2 mute - outside -\n"
unfolding digits channels_that ids_that
a_window_that_allows_touches_does_not = refl

-- the clearness is 200,000
two_windows_of_one_owner_leave_a_fifth :
    why_under (owned 1 60 Opacity (all 1 1) ∷ owned 1 50 Opacity (all 2 1) ∷ owned 2 100 Block (all 3 0) ∷ [])
    ≡ three_shown ++ codes "1000000 down 1 0 540,1200 touched 3 row first chosen 3 spies - pilfering - given 3 mute - outside -\n"
unfolding digits channels_that ids_that
two_windows_of_one_owner_leave_a_fifth = refl

-- it is 196,000
two_windows_of_one_owner_leave_less :
    why_under (owned 1 60 Opacity (all 1 1) ∷ owned 1 51 Opacity (all 2 1) ∷ owned 2 100 Block (all 3 0) ∷ [])
    ≡ three_shown ++ codes "1000000 down 1 0 540,1200 touched 3 row first chosen 3 spies - pilfering - given - mute - outside - blocked 3 by 1,2\n"
unfolding digits channels_that ids_that
two_windows_of_one_owner_leave_less = refl

two_owners_are_not_added_up :
    why_under (owned 1 60 Opacity (all 1 1) ∷ owned 3 51 Opacity (all 2 1) ∷ owned 2 100 Block (all 3 0) ∷ [])
    ≡ three_shown ++ codes "1000000 down 1 0 540,1200 touched 3 row first chosen 3 spies - pilfering - given 3 mute - outside -\n"
unfolding digits channels_that ids_that
two_owners_are_not_added_up = refl

a_window_that_no_touch_may_go_through_is_reported_alone :
    why_under (owned 1 90 Opacity (all 1 1) ∷ owned 3 100 Block (all 2 1) ∷ owned 2 100 Block (all 3 0) ∷ [])
    ≡ three_shown ++ codes "1000000 down 1 0 540,1200 touched 3 row first chosen 3 spies - pilfering - given - mute - outside - blocked 3 by 2\n"
unfolding digits channels_that ids_that
a_window_that_no_touch_may_go_through_is_reported_alone = refl

-- 16 is SPY
a_spy_blocks_and_is_given_the_pointer :
    why_under (owned 1 100 Block (all 1 16) ∷ owned 2 100 Block (all 2 0) ∷ [])
    ≡ two_shown ++ codes "1000000 down 1 0 540,1200 touched 2 row first chosen 2 spies 1 pilfering - given 1 mute - outside - blocked 2 by 1\n"
unfolding digits channels_that ids_that
a_spy_blocks_and_is_given_the_pointer = refl
