-- Worked packets.
use Rattle.std.specs.Prelude.{◌≡◌, ℕ, zero, suc, ◌+◌, Bool, true, ℤ, pos, negsuc, List, [], ◌∷◌, length, Some, None, codes, replicate}
use Rattle.std.proofs.Common.{refl}
use Rattle.raw_events.specs.declared.event.RawEvent.{RawEvent}
use Rattle.touch_writer.specs.declared.place.Place.{Place}
use Rattle.touch_writer.specs.declared.want.Want.{Want}
use Rattle.touch_writer.specs.declared.error.WriteError.TheVariants.{TooMany, NotAssignable, Spent}
use Rattle.touch_writer.specs.Places.{vacant, news}
use Rattle.touch_writer.specs.State.{State, packet_of, after}
use Rattle.touch_writer.specs.Search.{best}
use Rattle.touch_writer.specs.Refusal.{refusal}
use Rattle.std.specs.Fmt.{digits as decimal_digits}
use Rattle.touch_writer.specs.EventText.{event_line, digits, in_eight, stamp, fields}

-- a contact of the examples
abbrev at : ℕ → ℕ → ℕ → Want
at id x y = record { id = id; x = pos x; y = pos y }

-- an EV_ABS event and a SYN_REPORT of device 1
abbrev event : ℕ → ℕ → ℤ → RawEvent
event moment code value = record { device = 1; moment = moment; kind = 3; code = code; value = value }

abbrev report : ℕ → RawEvent
report moment = record { device = 1; moment = moment; kind = 0; code = 0; value = pos 0 }

-- the choice that is found, the packet and the writer behind it
abbrev choice : State → List Want → List Bool
choice s want = best want s.current 0 s.places (news s.places want) s.used

abbrev fresh : State
fresh = record { device = 1; current = 0; places = replicate 16 vacant; used = 0 }

-- two fingers come one after the other, and go
abbrev first : List Want
first = at 0 100 200 ∷ []

abbrev second : List Want
second = at 0 100 200 ∷ at 1 300 400 ∷ []

abbrev third : List Want
third = at 1 300 400 ∷ []

abbrev one : State
one = after fresh first (choice fresh first)

abbrev two : State
two = after one second (choice one second)

abbrev three : State
three = after two third (choice two third)

abbrev four : State
four = after three [] (choice three [])

down : packet_of fresh 1000 first (choice fresh first)
    ≡ event 1000 57 (pos 0) ∷ event 1000 53 (pos 100) ∷ event 1000 54 (pos 200) ∷ report 1000 ∷ []
down = refl

pointer_down : packet_of one 1000 second (choice one second)
    ≡ event 1000 47 (pos 1) ∷ event 1000 57 (pos 1) ∷ event 1000 53 (pos 300) ∷ event 1000 54 (pos 400) ∷ report 1000 ∷ []
pointer_down = refl

pointer_up : packet_of two 3000 third (choice two third) ≡ event 3000 47 (pos 0) ∷ event 3000 57 (negsuc 0) ∷ report 3000 ∷ []
pointer_up = refl

up : packet_of three 4000 [] (choice three []) ≡ event 4000 47 (pos 1) ∷ event 4000 57 (negsuc 0) ∷ report 4000 ∷ []
up = refl

-- a tap, and a second one at the same place: the positions are not said again
abbrev tap : List Want
tap = at 0 540 1200 ∷ []

abbrev tapped : State
tapped = after (after fresh tap (choice fresh tap)) [] (choice (after fresh tap (choice fresh tap)) [])

second_tap : packet_of tapped 9000 tap (choice tapped tap) ≡ event 9000 57 (pos 1) ∷ report 9000 ∷ []
second_tap = refl

-- The first free slot is not always the best one: slot 1 is the current one behind the second finger, so where both
-- fingers have gone a new one comes into it without a slot event.
in_later_slot : packet_of four 5000 (at 0 300 400 ∷ []) (choice four (at 0 300 400 ∷ [])) ≡ event 5000 57 (pos 2) ∷ report 5000 ∷ []
in_later_slot = refl

-- ---- sixteen fingers

-- contacts with successive ids from one on, that slots hold and that are wanted
abbrev holding : ℕ → ℕ → List Place
holding zero i = []
holding (suc n) i = record { x = pos 5; y = pos 7; holds = Some (record { id = i; tracking = pos i }) } ∷ holding n (i + 1)

abbrev wanting : ℕ → ℕ → List Want
wanting zero i = []
wanting (suc n) i = at i 5 7 ∷ wanting n (i + 1)

abbrev full : State
full = record { device = 1; current = 3; places = holding 16 0; used = 16 }

-- all of them leave while sixteen others come to the same places: each slot says its new tracking id alone
others_come : refusal full (wanting 16 16) ≡ None
others_come = refl

in_all_slots : length (packet_of full 6000 (wanting 16 16) (replicate 16 true)) ≡ 32
in_all_slots = refl

seventeen : refusal full (wanting 17 0) ≡ Some TooMany
seventeen = refl

-- ---- refusals

too_many : refusal (record { device = 1; current = 0; places = vacant ∷ []; used = 0 }) (at 0 1 1 ∷ at 1 2 2 ∷ []) ≡ Some TooMany
too_many = refl

-- the first finger gets the id 0, so an id 1 alone cannot come
not_assignable : refusal fresh (at 1 5 5 ∷ []) ≡ Some (NotAssignable 1)
not_assignable = refl

-- the second finger gets the id 1, so an id 2 cannot come
second_not_assignable : refusal one (at 0 100 200 ∷ at 2 5 5 ∷ []) ≡ Some (NotAssignable 2)
second_not_assignable = refl

abbrev used_up : ℕ → State
used_up n = record { device = 1; current = 0; places = vacant ∷ vacant ∷ []; used = n }

-- the last tracking id
last_id : refusal (used_up 2147483646) (at 0 5 5 ∷ []) ≡ None
last_id = refl

-- and one more
spent : refusal (used_up 2147483646) (at 0 5 5 ∷ at 1 6 6 ∷ []) ≡ Some Spent
spent = refl

spent_later : refusal (used_up 2147483647) (at 0 5 5 ∷ []) ≡ Some Spent
spent_later = refl

-- ---- lines

line : event_line (codes "/dev/input/event0") (event 1000 57 (pos 0)) ≡ codes "[       0.001000] /dev/input/event0: 0003 0039 00000000\n"
unfolding event_line stamp in_eight fields digits decimal_digits
line = refl

gone : event_line (codes "/dev/input/event0") (event 12345678901234 57 (negsuc 0)) ≡ codes "[12345678.901234] /dev/input/event0: 0003 0039 ffffffff\n"
unfolding event_line stamp in_eight fields digits decimal_digits
gone = refl
