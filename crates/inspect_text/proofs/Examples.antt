-- Worked examples: the text about concrete recordings, with lines and events newest first. Each is checked by
-- computation.
use Rattle.std.specs.Prelude.{codes, ◌≡◌, ℕ, pos, List, [], ◌∷◌, ◌++◌, refl}
use Rattle.std.specs.Fmt.{digits}
use Rattle.input_types.specs.declared.axis.Rotation.TheVariants.{R0}
use Rattle.raw_events.specs.declared.event.RawEvent.{RawEvent}
use Rattle.raw_events.specs.Line.{Known, judged, judged_text, formed, fields_of, moment_at, seconds_at, path_at}
use Rattle.raw_events.specs.Text.{number_at}
use Rattle.device_reader.specs.PointerIds.PointerIds.{assigned, least_free}
use Rattle.device_reader.specs.Cooked.{DevicePlan, Touches, Keys}
use Rattle.session_plan.specs.declared.plan.Step.{Step}
use Rattle.session_plan.specs.declared.plan.Act.TheVariants.{Remove}
use Rattle.inspect_text.specs.Inspected.{inspected}

abbrev screen : DevicePlan
screen = Touches (record {
  device = 1;
  slots = 10;
  cook = record { x = record { min = pos 0; max = pos 1079 }; y = record { min = pos 0; max = pos 2399 }; width = 1080; height = 2400; rotation = R0 };
})

abbrev keyboard : DevicePlan
keyboard = Keys (record { device = 1; layout = [] })

abbrev step : ℕ → Step
step at = record { at = at; lane = 1; act = Remove 1 }

abbrev event : (kind code value : ℕ) → RawEvent
event kind code value = record { device = 1; moment = 1000000; kind = kind; code = code; value = pos value }

abbrev one_device : Known
one_device = (codes "/dev/input/event2", 1) ∷ []

abbrev one_finger : List (List ℕ)
one_finger =
    codes "[       1.500000] /dev/input/event5: 0001 0073 00000001"
    ∷ codes "[       1.000000] /dev/input/event2: 0000 0000 00000000"
    ∷ codes "[       1.000000] /dev/input/event2: 0003 0036 000004b0"
    ∷ codes "[       1.000000] /dev/input/event2: 0003 0035 0000021c"
    ∷ codes "[       1.000000] /dev/input/event2: 0003 0039 0000002d"
    ∷ codes "add device 1: /dev/input/event2"
    ∷ []

a_finger_stays_down :
    inspected one_device one_finger (screen ∷ []) (event 0 0 0 ∷ event 3 54 1200 ∷ event 3 53 540 ∷ event 3 57 45 ∷ []) (step 2000000 ∷ [])
    (codes "key display.depth\n")
    ≡ codes "lines 6 blank 0 other 1 unknown 1 events 4\nmoments 1000000 1000000\n"
    ++ codes "device 1 touch events 4 used 4 void 0 drops 0 packets 1 fingers 1 palms 0 clamped 0 strayed 0 args 1\n"
    ++ codes "path /dev/input/event5 1\nsteps 1 before 0 within 0 after 1\nkey display.depth\nhint device 1 still down 0\nhint steps after\n"
unfolding digits judged judged_text formed fields_of moment_at seconds_at path_at number_at assigned least_free
a_finger_stays_down = refl

-- a mouse's positions are of a single touch, and its buttons are no contacts
a_single_touch :
    inspected one_device
    (codes "[ 1.000000] /dev/input/event2: 0000 0000 00000000" ∷ codes "[ 1.000000] /dev/input/event2: 0003 0000 00000010" ∷ codes " " ∷ [])
    (screen ∷ []) (event 0 0 0 ∷ event 3 0 16 ∷ []) (step 1000000 ∷ step 999999 ∷ []) []
    ≡ codes "lines 3 blank 1 other 0 unknown 0 events 2\nmoments 1000000 1000000\n"
    ++ codes "device 1 touch events 2 used 1 void 0 drops 0 packets 1 fingers 0 palms 0 clamped 0 strayed 0 args 0\n"
    ++ codes "steps 2 before 1 within 1 after 0\nhint device 1 single touch\n"
unfolding digits judged judged_text formed fields_of moment_at seconds_at path_at number_at assigned least_free
a_single_touch = refl

a_silent_keyboard :
    inspected one_device [] (keyboard ∷ []) [] [] []
    ≡ codes "lines 0 blank 0 other 0 unknown 0 events 0\ndevice 1 keys events 0 used 0 void 0 drops 0 downs 0 unnamed 0 args 0\n"
    ++ codes "steps 0 before 0 within 0 after 0\nhint device 1 silent\n"
unfolding digits
a_silent_keyboard = refl

-- a line without a path counts for `-` if there is no device
no_device :
    inspected [] (codes "[ 1.500000] 0001 0073 00000001" ∷ codes "[ 1.000000] 0001 0073 00000001" ∷ []) [] [] (step 5 ∷ []) []
    ≡ codes "lines 2 blank 0 other 0 unknown 2 events 0\npath - 2\nsteps 1 before 1 within 0 after 0\nhint no device\n"
unfolding digits judged judged_text formed fields_of moment_at seconds_at path_at number_at
no_device = refl

-- an event at a moment
abbrev at : ℕ → (kind code value : ℕ) → RawEvent
at moment kind code value = record { device = 1; moment = moment; kind = kind; code = code; value = pos value }

-- a byte order mark; a drop, whose next report is void; then the clock goes back for three events, one of them at x 5000
numbers_that_should_be_0 :
    inspected one_device ((239 ∷ 187 ∷ 191 ∷ codes "# a tap") ∷ []) (screen ∷ [])
    (at 2500000 0 0 0 ∷ at 1500000 3 54 100 ∷ at 1500000 3 53 5000 ∷ at 1500000 3 57 45 ∷ at 2000000 0 0 0 ∷ at 2000000 0 3 0 ∷ []) (step 3000000 ∷ []) []
    ≡ codes "lines 1 blank 0 other 1 unknown 0 events 6\nmoments 1500000 2500000\n"
    ++ codes "device 1 touch events 6 used 6 void 1 drops 1 packets 1 fingers 1 palms 0 clamped 1 strayed 0 args 2\n"
    ++ codes "steps 1 before 0 within 0 after 1\n"
    ++ codes "hint device 1 still down 0\nhint device 1 clamped 1\nhint device 1 drops 1\nhint clock back 3\nhint byte order mark\nhint steps after\n"
unfolding digits judged judged_text formed fields_of moment_at seconds_at path_at number_at assigned least_free
numbers_that_should_be_0 = refl

keys_that_were_lost :
    inspected one_device [] (keyboard ∷ []) (event 0 3 0 ∷ []) [] []
    ≡ codes "lines 0 blank 0 other 0 unknown 0 events 1\nmoments 1000000 1000000\n"
    ++ codes "device 1 keys events 1 used 1 void 0 drops 1 downs 0 unnamed 0 args 1\n"
    ++ codes "steps 0 before 0 within 0 after 0\nhint device 1 no keys\nhint device 1 drops 1\n"
unfolding digits
keys_that_were_lost = refl
