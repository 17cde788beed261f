-- How calls of Notify and Pump use up the room reserved for them, with a worked example.
use Rattle.std.proofs.Common.{◌≡◌, ℕ, true, if◌then◌else◌, ◌-◌, ◌<◌, ◌≤◌, List, [], ◌∷◌, length, max, arith, refl, ap}
use Rattle.dispatch_calls.specs.declared.call.Call.TheVariants.{Pump, Tick}
use Rattle.dispatch_calls.specs.declared.call.Entry.{Entry}
use Rattle.dispatch_calls.specs.declared.reply.Reply.TheVariants.{Idle, Named}
use Rattle.dispatcher.specs.Queueing.{is_input}
use Rattle.dispatch_core.specs.Recorded.{Recorded, with_entry, with_pumps}

-- each of these entries is a Notify or a Pump
abbrev pub AreInputs : List Entry → Type 0
AreInputs [] = Unit {0}
AreInputs (e ∷ es) = (is_input e.call ≡ true) × AreInputs es

-- the core when these entries came, newest first
abbrev pub after : List Entry → Recorded → Recorded
after [] r = r
after (e ∷ es) r = with_entry e (after es r)

-- each takes one of both rooms
pub left_after : (es : List Entry) (r : Recorded) → AreInputs es
    → ((after es r).spare ≡ r.spare - length es) × ((after es r).pumps ≡ r.pumps - length es)
left_after [] r all = (omega arith, omega arith)
left_after (e ∷ es) r all =
    let before = left_after es r all.1 in
    let spare : (after es r).spare ≡ r.spare - length es = before.0 in
    let pumps : (after es r).pumps ≡ r.pumps - length es = before.1 in
    let one : (after (e ∷ es) r).pumps ≡ (after es r).pumps - 1 = ap (λ b. if b then (after es r).pumps - 1 else 0) all.0 in
    (omega (arith, spare), omega (arith, pumps, one))

-- With room for n pumps, each of the next n such calls has room, whichever came before it.
pub each_has_room : (n : ℕ) (es : List Entry) (r : Recorded) → AreInputs es → length es < n
    → (1 ≤ (after es (with_pumps n r)).spare) × (1 ≤ (after es (with_pumps n r)).pumps)
each_has_room n es r all fewer =
    let left = left_after es (with_pumps n r) all in
    let spare : (after es (with_pumps n r)).spare ≡ max n r.spare - length es = left.0 in
    let pumps : (after es (with_pumps n r)).pumps ≡ max n r.pumps - length es = left.1 in
    (omega (arith, spare, fewer), omega (arith, pumps, fewer))

-- room for three entries and two pumps
abbrev roomy : Recorded
roomy = record { displays = []; entries = []; spare = 3; pumps = 2 }

abbrev pumped : Entry
pumped = record { seat = 0; call = Pump 1000; reply = Idle }

abbrev ticked : Entry
ticked = record { seat = 0; call = Tick 1000; reply = Named 0 }

-- a pump takes the room of one
one_pump : with_entry pumped roomy ≡ record { displays = []; entries = pumped ∷ []; spare = 2; pumps = 1 }
one_pump = refl

-- a tick takes all room for pumps, and one place
one_tick : with_entry ticked roomy ≡ record { displays = []; entries = ticked ∷ []; spare = 2; pumps = 0 }
one_tick = refl

-- and room for one entry and four pumps makes four of both
more_room : with_pumps 4 roomy ≡ record { displays = []; entries = []; spare = 4; pumps = 4 }
more_room = refl
