-- What may be done next, as a candidate of the ordered run.
use Rattle.std.specs.Prelude.{ℕ, nat_lt, if◌then◌else◌, [], ◌∷◌, Option, Some, None}
use Rattle.dispatch_calls.specs.declared.call.Call.{Call}
use Rattle.dispatch_calls.specs.declared.call.Call.TheVariants as calls
use Rattle.dispatch_history.specs.Ordered.{Candidate}
use Rattle.schedule.specs.declared.due.Due.{Due}
use Rattle.schedule.specs.declared.due.What.{What}
use Rattle.schedule.specs.declared.due.What.TheVariants.{Finish, Tick, Repeat}

-- the call that is made at a time
abbrev pub call_of : ℕ → What → Call
call_of t (Finish channel seq) = calls.Finish t channel seq
call_of t Tick = calls.Tick t
call_of t Repeat = calls.Pump t

-- the candidate
abbrev pub candidate_of : Due → Candidate
candidate_of d = record { moment = d.moment; calls = call_of d.moment d.what ∷ [] }

-- the sooner of two optional ones; at equal moments the first
abbrev pub sooner_due : Option Due → Option Due → Option Due
sooner_due None due = due
sooner_due (Some first) None = Some first
sooner_due (Some first) (Some second) = if nat_lt second.moment first.moment then Some second else Some first
