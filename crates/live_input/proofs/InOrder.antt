-- The order in which the messages of two windows are received, worked out by hand.
use Rattle.std.proofs.Common.{◌≡◌, ℕ, zero, suc, true, List, [], ◌∷◌, ◌++◌, reverse, Option, Some, None, refl}
use Rattle.input_types.specs.declared.message.Args.TheVariants.{Key as KeyOfDevice}
use Rattle.input_types.specs.declared.message.Message.{Message}
use Rattle.input_types.specs.declared.motion.MotionAction.TheVariants.{Down}
use Rattle.dispatch_calls.specs.declared.call.Call.TheVariants.{Windows, FocusOn, Receive}
use Rattle.dispatch_history.specs.Effect.{Effect}
use Rattle.dispatch_history.specs.Legal.{answered, run}
use Rattle.dispatch_history.specs.Reply.{reply_to}
use Rattle.dispatch_history.proofs.Worked.{at, dispatch, key, moved, one_display, open_two, window}
use Rattle.dispatcher.specs.Access.{got}
use Rattle.live_input.specs.Order.{next_any}

-- the number of a message that is received
abbrev number : Option Message → ℕ
number None = 0
number (Some m) = m.seq

-- the first n messages that are received, each by its channel and its number there; two channels were opened
abbrev handed_out : ℕ → List Effect → List (ℕ × ℕ)
handed_out zero es = []
handed_out (suc n) es = elim (next_any es) [
  | None ↦ []
  | Some f ↦ (f.channel, number (got (reply_to es (Receive f.channel)))) ∷ handed_out n (answered one_display (Receive f.channel) es)
]

-- Window 2 has the focus, and a key goes down in it. Then window 1 has the focus.
abbrev focus_moves : List Effect
focus_moves =
    run one_display
    (reverse
    (open_two ++ Windows 0 (window 1 0 0 0 540 2400 ∷ window 2 0 540 0 1080 2400 ∷ []) ∷ FocusOn 0 0 (Some 2) true ∷ []
    ++ dispatch 1000 (KeyOfDevice (key 115 24 true)) ++ FocusOn 1500 0 (Some 1) true ∷ []))

-- Window 2 is sent its focus, its key, the cancelled up of that and the loss of the focus before window 1 is sent the focus.
pub the_focus_leaves_a_window_before_it_comes_to_another : handed_out 9 focus_moves ≡ (2, 1) ∷ (2, 2) ∷ (2, 3) ∷ (2, 4) ∷ (1, 1) ∷ []
the_focus_leaves_a_window_before_it_comes_to_another = refl

-- A finger goes down in window 2, and the focus goes to it, to window 1 and back, all at one moment: the order is that of the steps.
abbrev one_moment : List Effect
one_moment =
    run one_display
    (reverse
    (open_two ++ Windows 0 (window 1 0 0 0 540 2400 ∷ window 2 0 540 0 1080 2400 ∷ []) ∷ []
    ++ moved 1000 Down 0 (at 0 700 10 ∷ []) ++ FocusOn 1000 0 (Some 2) true ∷ FocusOn 1000 0 (Some 1) true ∷ FocusOn 1000 0 (Some 2) true ∷ []))

pub equal_moments_do_not_mix_steps : handed_out 9 one_moment ≡ (2, 1) ∷ (2, 2) ∷ (2, 3) ∷ (1, 1) ∷ (1, 2) ∷ (2, 4) ∷ []
equal_moments_do_not_mix_steps = refl
