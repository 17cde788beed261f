-- A window receives a down and leaves it unfinished: it is reported at its limit, which is five seconds, and loses its pointer.
use Rattle.std.specs.Prelude.{codes, ◌≡◌, [], ◌∷◌, ◌++◌, List, reverse, refl}
use Rattle.std.specs.Fmt.{digits}
use Rattle.input_types.specs.declared.motion.MotionAction.TheVariants.{Down}
use Rattle.dispatch_calls.specs.declared.call.Call.{Call}
use Rattle.dispatch_calls.specs.declared.call.Call.TheVariants.{Open, Windows, Receive, Tick}
use Rattle.dispatch_history.specs.Legal.{run}
use Rattle.dispatch_history.proofs.Worked.{usual, window, at, moved, one_display}
use Rattle.stream_text.specs.Spelling.{flag_words, labeled, indexed, pointer, motion, key, key_end, numbered, channel_line, end_line, anr_line}
use Rattle.stream_text.specs.StreamsHistory.{streams_text}

abbrev left_unfinished : List Call
left_unfinished =
    Open usual ∷ Windows 0 (window 1 0 0 0 1080 2400 ∷ []) ∷ [] ++ moved 1000000 Down 0 (at 0 540 1200 ∷ [])
    ++ Receive 1 ∷ Tick 6000000 ∷ Receive 1 ∷ []

pub unfinished_text : streams_text (codes "main" ∷ []) (run one_display (reverse left_unfinished))
    ≡ codes "channel 1 main\n1 1000000 motion 1 DOWN 0@540,1200\n2 6000000 motion 1 CANCEL 0@540,1200\nend 1 sent 2 received 2 finished 0\nanr 6000000 1 1\n"
unfolding digits labeled indexed pointer motion flag_words key key_end numbered channel_line end_line anr_line
unfinished_text = refl
