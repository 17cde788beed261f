-- Worked examples: the causes of the next pump. All of them compute.
use Rattle.std.specs.Prelude.{codes, ◌≡◌, ℕ, List, [], ◌∷◌, ◌++◌, reverse, refl}
use Rattle.std.specs.Fmt.{digits}
use Rattle.input_types.specs.declared.message.Args.TheVariants.{Motion as MotionArgs}
use Rattle.input_types.specs.declared.motion.MotionAction.TheVariants.{Down, PointerDown}
use Rattle.dispatch_calls.specs.declared.call.Call.{Call}
use Rattle.dispatch_calls.specs.declared.call.Call.TheVariants.{Notify, Windows}
use Rattle.dispatch_history.specs.Legal.{run}
use Rattle.dispatch_history.proofs.Worked.{window, at, motion, moved, open_two, one_display}
use Rattle.why_text.specs.Words.{channels_that, ids_that}
use Rattle.why_lines.specs.Pumping.{pump_words}

-- the causes of a pump at a time after some calls, which stand in order
abbrev next_sent : ℕ → List Call → List (List ℕ)
next_sent now calls = pump_words one_display now (run one_display (reverse calls))

-- Windows 1 and 2 side by side, and a finger is down on the left one.
abbrev one_finger : List Call
one_finger =
    open_two ++ Windows 0 (window 1 0 0 0 540 2400 ∷ window 2 0 540 0 1080 2400 ∷ []) ∷ []
    ++ moved 1000000 Down 0 (at 0 100 200 ∷ [])

-- A second finger on the right one waits.
a_finger_that_waits :
    next_sent 1010000 (one_finger ++ Notify 1010000 (MotionArgs (motion PointerDown 1 (at 0 100 200 ∷ at 1 700 400 ∷ []))) ∷ [])
    ≡ codes "down 1 1 700,400 touched 2 row split chosen 2 spies - pilfering - given 2 mute - outside -" ∷ []
unfolding digits channels_that ids_that
a_finger_that_waits = refl

nothing_waits : next_sent 1010000 one_finger ≡ []
nothing_waits = refl
