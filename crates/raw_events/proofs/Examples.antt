-- Worked lines: what a phone prints for a tap, and lines that are refused.
use Rattle.std.proofs.Common.{◌≡◌, ℕ, ◌++◌, List, [], ◌∷◌, Ok, Err, pos, negsuc, refl}
use Rattle.std.specs.Prelude.{codes}
use Rattle.raw_events.specs.declared.event.LineError.TheVariants as errors
use Rattle.raw_events.specs.declared.line.Cause.TheVariants.{BadLine, NoMoment}
use Rattle.raw_events.specs.declared.line.Line.TheVariants.{PassedOver, Event, Refused}
use Rattle.raw_events.specs.Text.{number_at}
use Rattle.raw_events.specs.Line.{Known, seconds_at, moment_at, path_at, fields_of, formed, judged_text, judged}
use Rattle.raw_events.specs.Recording.{recorded}
use Rattle.raw_events.specs.Pieces.{parts, Reader, fed, finished}

-- one touch device
touch : Known
touch = (codes "/dev/input/event2", 1) ∷ []

line : List ℕ → List ℕ → List ℕ
line text after = text ++ 13 ∷ 10 ∷ after

-- a line of the tap, with its carriage return
finger_down : judged touch (codes "[   12345.100000] /dev/input/event2: 0003 0039 0000002d" ++ 13 ∷ [])
    ≡ Event (record { device = 1; moment = 12345100000; kind = 3; code = 57; value = pos 45 })
unfolding touch judged judged_text formed moment_at seconds_at number_at path_at fields_of
finger_down = refl

-- the tracking id -1 ends a contact
finger_up : judged touch (codes "[   12345.180000] /dev/input/event2: 0003 0039 ffffffff")
    ≡ Event (record { device = 1; moment = 12345180000; kind = 3; code = 57; value = negsuc 0 })
unfolding touch judged judged_text formed moment_at seconds_at number_at path_at fields_of
finger_up = refl

-- digits of either case, and no path: the first device
no_path : judged touch (codes "  [1.000002 ]  0003 003A 0000000F ")
    ≡ Event (record { device = 1; moment = 1000002; kind = 3; code = 58; value = pos 15 })
unfolding touch judged judged_text formed moment_at seconds_at number_at path_at fields_of
no_path = refl

-- another device: its lines are passed over, but have to be of the form
other_device : judged touch (codes "[       1.000000] /dev/input/event3: 0003 0035 00000064") ≡ PassedOver
unfolding touch judged judged_text formed moment_at seconds_at number_at path_at fields_of
other_device = refl

other_form : judged touch (codes "[       1.000000] /dev/input/event3: 0003 035 00000064") ≡ Refused BadLine
unfolding touch judged judged_text formed moment_at seconds_at number_at path_at fields_of
other_form = refl

-- a seventh digit of a fraction
seventh_digit : judged touch (codes "[       1.0000001] /dev/input/event2: 0003 0035 00000064") ≡ Refused BadLine
unfolding touch judged judged_text formed moment_at seconds_at number_at path_at fields_of
seventh_digit = refl

-- lines that `getevent` prints without moments
no_moment : judged touch (codes "/dev/input/event2: 0003 0035 00000064") ≡ Refused NoMoment
unfolding touch judged judged_text formed moment_at seconds_at number_at path_at fields_of
no_moment = refl

no_moment_no_path : judged touch (codes "0003 0035 00000064") ≡ Refused NoMoment
unfolding touch judged judged_text formed moment_at seconds_at number_at path_at fields_of
no_moment_no_path = refl

-- a recording whose third line is cut
cut : recorded touch (line (codes "add device 1: /dev/input/event2") (line (codes "  name:     \"touch\"") (codes "[       1.000000] /dev/input/event2: 0003 0035"))) ≡ Err (errors.BadLine 3)
unfolding touch line recorded judged judged_text formed moment_at seconds_at number_at path_at fields_of
cut = refl

-- the same line whole, without a newline
whole : recorded touch (line (codes "add device 1: /dev/input/event2") (line (codes "  name:     \"touch\"") (codes "[       1.000000] /dev/input/event2: 0003 0035 00000064")))
    ≡ Ok (record { device = 1; moment = 1000000; kind = 3; code = 53; value = pos 100 } ∷ [])
unfolding touch line recorded judged judged_text formed moment_at seconds_at number_at path_at fields_of
whole = refl

-- a recording without moments
unmarked : recorded touch (codes "/dev/input/event2: 0003 0035 00000064") ≡ Err (errors.NoMoment 1)
unfolding touch recorded judged judged_text formed moment_at seconds_at number_at path_at fields_of
unmarked = refl

-- two lines that ended, and one that has begun
three_parts : parts (codes "ab" ++ 10 ∷ 10 ∷ codes "cd") ≡ record { ended = codes "ab" ∷ [] ∷ []; begun = codes "cd" }
three_parts = refl

-- a reader at a line
at_line : ℕ → List ℕ → Reader
at_line n begun = record { devices = touch; place = Ok (n, begun) }

-- the first piece of a line gives nothing, and is kept
first_piece : fed (at_line 1 []) (codes "[   12345.10") ≡ record { events = []; place = Ok (1, codes "[   12345.10") }
unfolding at_line
first_piece = refl

-- the second piece gives its event; the next line is line 2
second_piece : fed (at_line 1 (codes "[   12345.10")) (codes "0000] /dev/input/event2: 0003 0035 0000021c" ++ 10 ∷ [])
    ≡ record { events = record { device = 1; moment = 12345100000; kind = 3; code = 53; value = pos 540 } ∷ []; place = Ok (2, []) }
unfolding touch at_line judged judged_text formed moment_at seconds_at number_at path_at fields_of
second_piece = refl

-- at the end a line that is cut is refused, and a carriage return alone is a line without anything
cut_end : finished (at_line 3 (codes "[       1.000000] /dev/input/event2: 0003 0035")) ≡ record { events = []; place = Err (errors.BadLine 3) }
unfolding touch at_line judged judged_text formed moment_at seconds_at number_at path_at fields_of
cut_end = refl

return_end : finished (at_line 3 (13 ∷ [])) ≡ record { events = []; place = Ok (4, []) }
unfolding touch at_line judged judged_text formed moment_at seconds_at number_at path_at fields_of
return_end = refl

-- nothing comes behind a refusal
refusal_stays : fed (record { devices = touch; place = Err (errors.NoMoment 7) }) (codes "x") ≡ record { events = []; place = Err (errors.NoMoment 7) }
refusal_stays = refl
