-- The order of a history: which calls were made, one after another.
use Rattle.std.specs.Prelude.{ℕ, ◌+◌, ◌==◌, if◌then◌else◌, List, [], ◌∷◌, ◌++◌, Option, Some, None}
use Rattle.dispatch_calls.specs.declared.call.Call.{Call}
use Rattle.dispatch_calls.specs.declared.call.Call.TheVariants as calls
use Rattle.dispatch_calls.specs.declared.call.Entry.{Entry}
use Rattle.stream_text.specs.declared.order_line.OrderLine.{OrderLine}
use Rattle.stream_text.specs.declared.order_line.OrderLine.TheVariants.{Reader, Script, Pump, Tick, Receive, Finish}

-- the script lane that has this seat, where the first of these seats is that of lane l
abbrev pub lane_from : ℕ → List ℕ → ℕ → Option ℕ
lane_from l [] seat = None
lane_from l (s ∷ seats) seat = if s == seat then Some l else lane_from (l + 1) seats seat

-- a call that no script lane made; openings are in no order
abbrev pub call_lines : Call → List OrderLine
call_lines (calls.Notify now args) = Reader ∷ []
call_lines (calls.Pump now) = Pump ∷ []
call_lines (calls.Tick now) = Tick ∷ []
call_lines (calls.Receive channel) = Receive channel ∷ []
call_lines (calls.Finish now channel seq) = Finish channel seq ∷ []
call_lines _ = []

-- a call of this lane, where one made it
abbrev pub made_by : Option ℕ → Call → List OrderLine
made_by lane (calls.Open terms) = []
made_by (Some lane) call = Script lane ∷ []
made_by None call = call_lines call

-- the order of a history, its last entry first; the script lanes have these seats, lane 1 the first
abbrev pub order_of_history : List ℕ → List Entry → List OrderLine
order_of_history seats [] = []
order_of_history seats (entry ∷ past) = order_of_history seats past ++ made_by (lane_from 1 seats entry.seat) entry.call
