-- A worked example: one channel is sent motions of two devices, a key that repeats and is cancelled, and its focus.
use Rattle.std.specs.Prelude.{◌≡◌, ℕ, true, false, List, [], ◌∷◌, ◌++◌, reverse, Option, Some, None, option_map, refl}
use Rattle.input_types.specs.declared.message.Args.TheVariants.{Motion as MotionArgs, Key as KeyOfDevice}
use Rattle.input_types.specs.declared.motion.MotionAction.TheVariants.{Down, Up, PointerDown}
use Rattle.input_types.specs.StreamRule.{StreamState, stream_state}
use Rattle.dispatch_calls.specs.declared.call.Call.{Call}
use Rattle.dispatch_calls.specs.declared.call.Call.TheVariants.{Open, Windows, FocusOn, Pump}
use Rattle.dispatch_history.specs.Effect.{stream}
use Rattle.dispatch_history.specs.Known.{known_state}
use Rattle.dispatch_history.specs.Legal.{run}
use Rattle.dispatch_history.proofs.Worked.{usual, window, of, at, motion, dispatch, moved, says, key, focused, keyed, one_display, stream_of}

-- devices 1 and 2 touch the window, which is focused while the key is held
abbrev while_held : List Call
while_held =
    Open usual ∷ Windows 0 (window 1 0 0 0 1080 2400 ∷ []) ∷ FocusOn 0 0 (Some 1) true ∷ []
    ++ moved 1000 Down 0 (at 0 100 200 ∷ []) ++ dispatch 2000 (KeyOfDevice (key 30 29 true))
    ++ dispatch 3000 (MotionArgs (of 2 (motion Down 0 (at 0 300 400 ∷ []))))
    ++ moved 4000 PointerDown 1 (at 0 100 200 ∷ at 1 500 600 ∷ []) ++ Pump 502000 ∷ []

-- then the other device lifts its finger, and the focus is requested for none
abbrev and_then : List Call
and_then = while_held ++ dispatch 503000 (MotionArgs (of 2 (motion Up 0 (at 0 300 400 ∷ [])))) ++ FocusOn 504000 0 None true ∷ []

its_stream :
    stream_of and_then 1
    ≡ focused 1 0 true ∷ says 2 1000 (motion Down 0 (at 0 100 200 ∷ [])) ∷ keyed 3 2000 (key 30 29 true) 0 0
    ∷ says 4 3000 (of 2 (motion Down 0 (at 0 300 400 ∷ []))) ∷ says 5 4000 (motion PointerDown 1 (at 0 100 200 ∷ at 1 500 600 ∷ []))
    ∷ keyed 6 502000 (key 30 29 true) 0 1 ∷ says 7 503000 (of 2 (motion Up 0 (at 0 300 400 ∷ [])))
    ∷ keyed 8 504000 (key 30 29 false) 0x20 0 ∷ focused 9 504000 false ∷ []
its_stream = refl

-- the ids that are down of both devices, the next repeat number of the key, and the focus, by the stream and by what the window holds
abbrev outgoing : StreamState → List ℕ × List ℕ × Option ℕ
outgoing s = (s.ids 1, s.ids 2, s.repeats 1 30)

abbrev by_stream : List Call → Option (List ℕ × List ℕ × Option ℕ)
by_stream calls = option_map outgoing (stream_state (stream (run one_display (reverse calls)) 1))

while_the_key_is_held : by_stream while_held ≡ Some (0 ∷ 1 ∷ [], 0 ∷ [], Some 2)
while_the_key_is_held = refl

and_its_window_holds_just_that : outgoing (known_state (run one_display (reverse while_held)) 1) ≡ (0 ∷ 1 ∷ [], 0 ∷ [], Some 2)
and_its_window_holds_just_that = refl

once_it_is_cancelled : by_stream and_then ≡ Some (0 ∷ 1 ∷ [], [], None)
once_it_is_cancelled = refl
