-- Worked examples, within 12 microseconds and 3 pixels.
use Rattle.std.specs.Prelude.{codes, ◌≡◌, ℕ, ℤ, Bool, List, [], ◌∷◌, Option, Some, None, Result, Ok, Err, pos, negsuc, true, false}
use Rattle.std.proofs.Common.{refl}
use Rattle.std.specs.Fmt.{digits}
use Rattle.input_types.specs.declared.key.KeyMsg.{KeyMsg}
use Rattle.input_types.specs.declared.message.Body.{Body}
use Rattle.input_types.specs.declared.message.Body.TheVariants.{Motion, Key, Focus}
use Rattle.input_types.specs.declared.message.Message.{Message}
use Rattle.input_types.specs.declared.motion.MotionAction.{MotionAction}
use Rattle.input_types.specs.declared.motion.MotionAction.TheVariants.{Down, Up, Move, PointerDown}
use Rattle.input_types.specs.declared.pointer.Pointer.{Pointer}
use Rattle.stream_text.specs.StreamFile.{Stream}
use Rattle.compare_text.specs.declared.comparison.Comparison.{Comparison}
use Rattle.compare_text.specs.declared.difference.Difference.{Difference}
use Rattle.compare_text.specs.declared.difference.Difference.TheVariants as by
use Rattle.compare_text.specs.declared.error.CompareError.{CompareError}
use Rattle.compare_text.specs.declared.error.CompareError.TheVariants.{Added, Differs, Missing, NewSection, NoSection}
use Rattle.compare_text.specs.Compared.{compared, same_line}
use Rattle.compare_text.specs.Differing.{difference_of}
use Rattle.compare_text.specs.Lines.{difference_words, differs_at, refusal_line}
use Rattle.compare_text.specs.Points.{sections_of}

-- a motion of pointer 0 at a moment and a place
abbrev motion : ℕ → MotionAction → ℕ → ℕ → ℕ → Message
motion moment action flags x y = record {
  seq = 1;
  moment = moment;
  body = Motion (record { device = 1; action = action; index = 0; flags = flags; pointers = record { id = 0; at = record { x = pos x; y = pos y } } ∷ [] });
}

abbrev stream : ℕ → ℕ → List Message → Stream
stream id first_line messages = record { id = id; first_line = first_line; messages = messages }

abbrev tap : List Message
tap = motion 2000 Down 0 110 200 ∷ motion 5000 Up 0 112 200 ∷ []

abbrev rule : Option ℕ → Option ℕ → Bool → Comparison
rule want_channel got_channel each_move = record {
  tolerance = record { us = 12; pixels = 3 };
  want_channel = want_channel;
  got_channel = got_channel;
  each_move = each_move;
}

abbrev by_rule : Comparison → List Stream → List Stream → Result (List ℕ) CompareError
by_rule c want got = compared c (sections_of want) (sections_of got)

abbrev said : List Stream → List Stream → Result (List ℕ) CompareError
said want got = by_rule (rule None None false) want got

-- each tolerance is met exactly, and moves are skipped
within : said (stream 7 2 tap ∷ []) (stream 7 2 (motion 2012 Down 0 107 203 ∷ motion 3000 Move 0 1 1 ∷ motion 4000 Move 0 2 2 ∷ motion 4988 Up 0 112 200 ∷ []) ∷ [])
    ≡ Ok (codes "same 1 2 us 12 pixels 3\n")
unfolding same_line digits
within = refl

one_too_late : said (stream 7 2 tap ∷ []) (stream 7 9 (motion 2013 Down 0 110 200 ∷ motion 5000 Up 0 112 200 ∷ []) ∷ []) ≡ Err (Differs 2 9 (by.Time (pos 13)))
one_too_late = refl

one_too_far : said (stream 7 2 tap ∷ []) (stream 7 9 (motion 2000 Down 0 110 200 ∷ motion 5000 Up 0 112 196 ∷ []) ∷ []) ≡ Err (Differs 3 10 (by.Place (pos 0) (negsuc 3)))
one_too_far = refl

another_action : said (stream 7 2 tap ∷ []) (stream 7 9 (motion 2000 Down 0 110 200 ∷ motion 5000 Down 0 112 200 ∷ []) ∷ []) ≡ Err (Differs 3 10 by.Action)
another_action = refl

-- a move that is canceled is a point
canceled_move : said (stream 7 2 tap ∷ []) (stream 7 2 (motion 2000 Down 0 110 200 ∷ motion 3000 Move 32 110 200 ∷ motion 5000 Up 0 112 200 ∷ []) ∷ [])
    ≡ Err (Differs 3 3 by.Action)
canceled_move = refl

-- one whose flags are marks alone is none, and one that is canceled beside a mark is one
marked_move : said (stream 7 2 tap ∷ []) (stream 7 2 (motion 2000 Down 0 110 200 ∷ motion 3000 Move 3 110 200 ∷ motion 5000 Up 0 112 200 ∷ []) ∷ [])
    ≡ Ok (codes "same 1 2 us 0 pixels 0\n")
unfolding same_line digits
marked_move = refl

marked_canceled_move : said (stream 7 2 tap ∷ []) (stream 7 2 (motion 2000 Down 0 110 200 ∷ motion 3000 Move 34 110 200 ∷ motion 5000 Up 0 112 200 ∷ []) ∷ [])
    ≡ Err (Differs 3 3 by.Action)
marked_canceled_move = refl

ended_early : said (stream 7 2 tap ∷ []) (stream 7 2 (motion 2000 Down 0 110 200 ∷ []) ∷ []) ≡ Err (Missing 3)
ended_early = refl

one_more : said (stream 7 2 (motion 2000 Down 0 110 200 ∷ []) ∷ []) (stream 7 9 tap ∷ []) ≡ Err (Added 10)
one_more = refl

-- sections in another order, and the second of a channel with the second
in_another_order : said (stream 7 2 tap ∷ stream 8 6 [] ∷ stream 7 8 [] ∷ []) (stream 8 2 [] ∷ stream 7 4 tap ∷ stream 7 8 [] ∷ []) ≡ Ok (codes "same 3 2 us 0 pixels 0\n")
unfolding same_line digits
in_another_order = refl

second_with_second : said (stream 7 2 tap ∷ stream 7 6 [] ∷ []) (stream 7 2 [] ∷ stream 7 4 tap ∷ []) ≡ Err (Missing 2)
second_with_second = refl

no_section : said (stream 7 2 tap ∷ stream 8 6 [] ∷ []) (stream 7 2 tap ∷ []) ≡ Err (NoSection 5)
no_section = refl

new_section : said (stream 7 2 tap ∷ []) (stream 7 2 tap ∷ stream 7 6 [] ∷ []) ≡ Err (NewSection 5)
new_section = refl

-- an expected section comes before what is new
wanted_first : said (stream 7 2 tap ∷ []) (stream 8 2 tap ∷ []) ≡ Err (NoSection 1)
wanted_first = refl

another_focus : said (stream 7 2 (record { seq = 1; moment = 9; body = Focus true } ∷ []) ∷ []) (stream 7 2 (record { seq = 1; moment = 9; body = Focus false } ∷ []) ∷ [])
    ≡ Err (Differs 2 2 by.Focus)
another_focus = refl

-- ---- moves, each of which is a point

abbrev moved : List Message
moved = motion 2000 Down 0 110 200 ∷ motion 3000 Move 0 111 200 ∷ motion 5000 Up 0 112 200 ∷ []

each_move_counts : by_rule (rule None None true) (stream 7 2 moved ∷ []) (stream 7 2 (motion 2000 Down 0 110 200 ∷ motion 3007 Move 0 111 198 ∷ motion 5000 Up 0 112 200 ∷ []) ∷ [])
    ≡ Ok (codes "same 1 3 us 7 pixels 2\n")
unfolding same_line digits
each_move_counts = refl

each_move_is_missed : by_rule (rule None None true) (stream 7 2 moved ∷ []) (stream 7 2 tap ∷ []) ≡ Err (Differs 3 3 by.Action)
each_move_is_missed = refl

-- ---- channels that are named

-- the log of an application has one channel, and the window is another one
one_named : by_rule (rule (Some 3) None false) (stream 1 2 [] ∷ stream 3 4 tap ∷ []) (stream 9 2 tap ∷ []) ≡ Ok (codes "same 1 2 us 0 pixels 0\n")
unfolding same_line digits
one_named = refl

both_named : by_rule (rule (Some 3) (Some 9) false) (stream 3 4 tap ∷ []) (stream 3 2 [] ∷ stream 9 4 tap ∷ []) ≡ Ok (codes "same 1 2 us 0 pixels 0\n")
unfolding same_line digits
both_named = refl

-- the second section of the channel with the second of the file, whatever its channel
second_named : by_rule (rule (Some 3) None false) (stream 3 2 [] ∷ stream 4 4 [] ∷ stream 3 6 tap ∷ []) (stream 9 2 [] ∷ stream 8 4 tap ∷ []) ≡ Ok (codes "same 2 2 us 0 pixels 0\n")
unfolding same_line digits
second_named = refl

named_alone : by_rule (rule (Some 3) (Some 9) false) (stream 3 4 tap ∷ []) (stream 3 2 tap ∷ []) ≡ Err (NoSection 3)
named_alone = refl

one_too_many : by_rule (rule None (Some 9) false) [] (stream 8 2 [] ∷ stream 9 4 tap ∷ []) ≡ Err (NewSection 3)
one_too_many = refl

-- ---- each kind of difference

-- a motion of pointers 0 and 4, and another one
abbrev pointer : ℕ → ℤ → ℤ → Pointer
pointer id x y = record { id = id; at = record { x = x; y = y } }

abbrev two : ℕ → MotionAction → ℕ → ℕ → List Pointer → Message
two device action index flags pointers = record {
  seq = 1;
  moment = 9;
  body = Motion (record { device = device; action = action; index = index; flags = flags; pointers = pointers });
}

abbrev fingers : List Pointer
fingers = pointer 0 (pos 10) (pos 20) ∷ pointer 4 (pos 30) (pos 40) ∷ []

abbrev second_down : Message
second_down = two 1 PointerDown 1 0 fingers

abbrev apart : Message → Message → Option Difference
apart want got = difference_of 12 3 want got

abbrev key : (device scan code meta : ℕ) → Bool → (flags repeat : ℕ) → Message
key device scan code meta down flags repeat = record {
  seq = 1;
  moment = 9;
  body = Key (record { key = record { device = device; scan = scan; code = code; meta = meta; down = down }; flags = flags; repeat = repeat });
}

abbrev volume : Message
volume = key 2 115 24 0 false 0 0

nothing : apart second_down (two 1 PointerDown 1 0 (pointer 0 (pos 13) (pos 17) ∷ pointer 4 (pos 30) (pos 43) ∷ [])) ≡ None
nothing = refl

another_kind : apart second_down volume ≡ Some by.Kind
another_kind = refl

another_device : apart second_down (two 2 Down 0 0 []) ≡ Some by.Device
another_device = refl

another_index : apart second_down (two 1 PointerDown 0 32 fingers) ≡ Some by.Index
another_index = refl

other_flags : apart second_down (two 1 PointerDown 1 32 []) ≡ Some by.Flags
other_flags = refl

other_marks : apart (two 1 PointerDown 1 1 fingers) (two 1 PointerDown 1 2 fingers) ≡ Some by.Flags
other_marks = refl

other_pointers : apart second_down (two 1 PointerDown 1 0 (pointer 0 (pos 90) (pos 20) ∷ pointer 5 (pos 30) (pos 40) ∷ [])) ≡ Some by.Pointers
other_pointers = refl

-- pointer 0 is close, and pointer 4 is 20 pixels further left and 4 lower
another_place : apart second_down (two 1 PointerDown 1 0 (pointer 0 (pos 13) (pos 20) ∷ pointer 4 (pos 10) (pos 44) ∷ [])) ≡ Some (by.Place (negsuc 19) (pos 4))
another_place = refl

another_keyboard : apart volume (key 1 114 25 1 true 32 1) ≡ Some by.Device
another_keyboard = refl

another_scan : apart volume (key 2 114 25 1 true 32 1) ≡ Some by.Scan
another_scan = refl

another_code : apart volume (key 2 115 25 1 true 32 1) ≡ Some by.Code
another_code = refl

another_meta : apart volume (key 2 115 24 1 true 32 1) ≡ Some by.Meta
another_meta = refl

another_direction : apart volume (key 2 115 24 0 true 32 1) ≡ Some by.Direction
another_direction = refl

other_key_flags : apart volume (key 2 115 24 0 false 32 1) ≡ Some by.Flags
other_key_flags = refl

another_repeat : apart volume (key 2 115 24 0 false 0 1) ≡ Some by.Repeat
another_repeat = refl

too_early : difference_of 2 3 volume (record { seq = 5; moment = 6; body = volume.body }) ≡ Some (by.Time (negsuc 2))
too_early = refl

-- ---- lines

abbrev line : Difference → List ℕ
line what = refusal_line (Differs 3 15 what)

kind_line : line by.Kind ≡ codes "compare: Differs 3 15 kind"
unfolding refusal_line differs_at difference_words digits
kind_line = refl

place_line : line (by.Place (negsuc 19) (pos 4)) ≡ codes "compare: Differs 3 15 place -20,4"
unfolding refusal_line differs_at difference_words digits
place_line = refl

time_line : line (by.Time (negsuc 2)) ≡ codes "compare: Differs 3 15 time -3"
unfolding refusal_line differs_at difference_words digits
time_line = refl

direction_line : line by.Direction ≡ codes "compare: Differs 3 15 direction"
unfolding refusal_line differs_at difference_words digits
direction_line = refl
