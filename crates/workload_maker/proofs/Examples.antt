-- Numbers, packets and windows of a workload, computed.
use Rattle.std.specs.Prelude.{◌≡◌, pos, negsuc, true, false, [], ◌∷◌, map, filter, refl}
use Rattle.window_snapshot.specs.Window.{is_hit}
use Rattle.workload_maker.specs.Events.{Fingers, events_of, packets, slot_events, axis_event, report_event, slot_of, ends}
use Rattle.workload_maker.specs.Numbers.{first_number, drawn_after}
use Rattle.workload_maker.specs.Session.{windows}

pub first_of_seed_0 : drawn_after (first_number 0) ≡ 48271
unfolding first_number drawn_after
first_of_seed_0 = refl

pub second_of_seed_0 : drawn_after 48271 ≡ 182605794
unfolding drawn_after
second_of_seed_0 = refl

pub third_of_seed_0 : drawn_after 182605794 ≡ 1291394886
unfolding drawn_after
third_of_seed_0 = refl

-- the greatest first number, and the next seed, which begins as seed 0 does
pub greatest_first_number : first_number 2147483645 ≡ 2147483646
unfolding first_number
greatest_first_number = refl

pub seed_that_begins_anew : first_number 2147483646 ≡ 1
unfolding first_number
seed_that_begins_anew = refl

pub greatest_seed : first_number 4294967295 ≡ 4
unfolding first_number
greatest_seed = refl

-- of 16 fingers the last one has slot 15
pub last_of_16 : slot_of 16 48271 ≡ 15
unfolding slot_of
last_of_16 = refl

pub only_one : slot_of 1 48271 ≡ 0
unfolding slot_of
only_one = refl

pub no_packet : events_of 0 0 10 ≡ []
no_packet = refl

-- the first packet of seed 0: slot 1 goes down at (474, 486)
pub first_packet
    : events_of 0 1 10
    ≡ axis_event 0 47 (pos 1)
    ∷ axis_event 0 57 (pos 0)
    ∷ axis_event 0 53 (pos 474)
    ∷ axis_event 0 54 (pos 486)
    ∷ report_event 0
    ∷ []
unfolding first_number drawn_after slot_of ends
first_packet = refl

-- packet 4 of a workload whose last number was 1291394886: the numbers 1914720637, 2078669041 and 407355683 put slot 7 at (601, 1283)
pub later_packet
    : packets 10 1 4 (record { number = 1291394886; contacts = 3; held = 2 })
    ≡ axis_event 32000 47 (pos 7)
    ∷ axis_event 32000 57 (pos 3)
    ∷ axis_event 32000 53 (pos 601)
    ∷ axis_event 32000 54 (pos 1283)
    ∷ report_event 32000
    ∷ []
unfolding drawn_after slot_of ends
later_packet = refl

-- slot 1 has a contact, and the number 182605794 leaves 2 at a division by 4: it moves, by 1291394886 and 1914720637
pub move : slot_events 9 1 (record { number = 48271; contacts = 3; held = 2 }) ≡ axis_event 9 53 (pos 6) ∷ axis_event 9 54 (pos 637) ∷ []
unfolding drawn_after ends
move = refl

-- after 4 comes 193084, which 4 divides: the contact ends
pub end : slot_events 9 1 (record { number = 4; contacts = 3; held = 2 }) ≡ axis_event 9 57 (negsuc 0) ∷ []
unfolding drawn_after ends
end = refl

-- the windows at (474, 486), front to back: the spy, and that of the upper left quarter
pub windows_at_the_first_place : map (λ w. w.channel) (filter (is_hit (λ c. true) (pos 474) (pos 486)) windows) ≡ 5 ∷ 1 ∷ []
windows_at_the_first_place = refl
