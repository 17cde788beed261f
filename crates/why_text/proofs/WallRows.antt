-- Worked examples of the text of a finger that goes down where a wall of display 0, whose number is 65, is. The display has 1080 by
-- 2400 pixels, each window has all of it, and the finger is at 540,1200. All of them compute.
use Rattle.std.specs.Prelude.{codes, ◌≡◌, ℕ, List, [], ◌∷◌, ◌++◌, reverse, refl}
use Rattle.std.specs.Fmt.{digits}
use Rattle.input_types.specs.declared.motion.MotionAction.TheVariants.{Down}
use Rattle.window_snapshot.specs.declared.occlusion.Occlusion.TheVariants.{Block}
use Rattle.window_snapshot.specs.declared.window.Window.{Window}
use Rattle.dispatch_calls.specs.declared.call.Call.TheVariants.{Windows}
use Rattle.routing_rules.proofs.Worked.{owned}
use Rattle.dispatch_history.specs.Legal.{run}
use Rattle.dispatch_history.proofs.Worked.{window, at, moved, open_two, one_display}
use Rattle.why_text.specs.Words.{channels_that, ids_that}
use Rattle.why_text.specs.Text.{why_text}

-- a window of all of the display
abbrev all : (channel flags : ℕ) → Window
all c f = window c f 0 0 1080 2400

-- the text of such windows and the finger
abbrev why_under : List Window → List ℕ
why_under windows = why_text one_display (run one_display (reverse (open_two ++ Windows 0 windows ∷ [] ++ moved 1000000 Down 0 (at 0 540 1200 ∷ []))))

a_wall_takes_the_finger :
    why_under (all 65 0 ∷ all 2 0 ∷ [])
    ≡ codes "0 windows wall@0:0,0,1080,2400 2@0:0,0,1080,2400\n"
    ++ codes "1000000 down 1 0 540,1200 touched wall row first chosen wall spies - pilfering - given - mute - outside -\n"
unfolding digits channels_that ids_that
a_wall_takes_the_finger = refl

-- 16 is SPY
a_spy_in_front_gets_it :
    why_under (all 1 16 ∷ all 65 0 ∷ all 2 0 ∷ [])
    ≡ codes "0 windows 1@0:0,0,1080,2400 wall@0:0,0,1080,2400 2@0:0,0,1080,2400\n"
    ++ codes "1000000 down 1 0 540,1200 touched wall row first chosen wall spies 1 pilfering - given 1 mute - outside -\n"
unfolding digits channels_that ids_that
a_spy_in_front_gets_it = refl

-- 1 is NOT_TOUCHABLE; the wall is of owner 1
a_wall_that_cannot_be_touched_blocks :
    why_under (owned 1 100 Block (all 65 1) ∷ owned 2 100 Block (all 2 0) ∷ [])
    ≡ codes "0 windows wall@0:0,0,1080,2400 2@0:0,0,1080,2400\n"
    ++ codes "1000000 down 1 0 540,1200 touched 2 row first chosen 2 spies - pilfering - given - mute - outside - blocked 2 by - wall\n"
unfolding digits channels_that ids_that
a_wall_that_cannot_be_touched_blocks = refl
