-- How the next candidate is found.
use Rattle.std.specs.Prelude.{◌≡◌, ℕ, ◌+◌, ◌≤◌, ◌==◌, nat_le, nat_lt, Bool, true, false, List, [], ◌∷◌, ◌++◌, length, Option, Some, None, slice_get, if◌then◌else◌}
use Rattle.dispatch_calls.specs.declared.call.Call.TheVariants.{Pump, Tick}
use Rattle.dispatch_history.specs.History.{clock, moment_of}
use Rattle.dispatch_history.specs.Queue.{inbound}
use Rattle.dispatch_history.specs.Effect.{Effect, past_of}
use Rattle.dispatch_history.specs.KeySent.{repeat_due}
use Rattle.dispatch_history.specs.Due.{Due, first_due}
use Rattle.dispatch_history.specs.Plan.{Plan, ChannelOf}
use Rattle.dispatch_history.specs.Ordered.{Candidate, soonest, all_finishes, due_tick, due_repeat, round, notified}
use Rattle.schedule.specs.declared.keeping.Lines.{Lines}
use Rattle.schedule.specs.declared.plan.Step.{Step}
use Rattle.schedule.specs.Next.{fore, up_to, sooner_with, next_finish}
use Rattle.schedule.specs.State.{ScheduleState, ReadyWith}

-- what may be done next except steps and args, in the order that decides at equal moments
abbrev pub dues_of : Plan → List Effect → List Candidate
dues_of plan es =
    all_finishes (past_of es) 1 plan.channels ++ due_tick (first_due es) ++ due_repeat (length (inbound (past_of es)) == 0) (repeat_due es)

-- a time is before that of what is due, if anything is
abbrev pub is_before : ℕ → Option Candidate → Bool
is_before t None = true
is_before t (Some c) = nat_lt t c.moment

-- something is due at or before a time
abbrev pub is_due_by : Option Candidate → ℕ → Bool
is_due_by None t = false
is_due_by (Some c) t = nat_le c.moment t

-- one round of what is due up to a time was made, or nothing is due and nothing was done
abbrev pub Advances : Lines → Plan → ℕ → List Effect → ScheduleState → ScheduleState → Bool → Type 0
Advances how plan until es old new false = (up_to until (soonest (fore plan es)) ≡ None) × (new ≡ old)
Advances how plan until es old new true =
    (c : Candidate) × (up_to until (soonest (fore plan es)) ≡ Some c) × (notified (past_of (round plan es c)) ≡ notified (past_of es))
    × ReadyWith how plan (round plan es c) new

-- the next finish of channels, the first of which has number c, against the soonest so far
abbrev pub next_finishes : List Effect → ℕ → List ChannelOf → Option Candidate → Option Candidate
next_finishes es c [] best = best
next_finishes es c (p ∷ ps) best = next_finishes es (c + 1) ps (sooner_with best (next_finish es c p))

-- what is due, if anything is, is not due before a time
abbrev pub NotBefore : ℕ → Option Candidate → Type 0
NotBefore t None = Unit {0}
NotBefore t (Some c) = t ≤ c.moment

-- no finish of these channels that is to come is due before the clock
abbrev pub NoneOverdue : List ChannelOf → List Effect → Type 0
NoneOverdue ps es = NotBefore (clock (past_of es)) (next_finishes es 1 ps None)

-- the tick at a due
abbrev pub tick_of : Due → Candidate
tick_of d = record { moment = d.moment; calls = Tick d.moment ∷ [] }

-- the repeat at a time
abbrev pub repeat_at : ℕ → Candidate
repeat_at t = record { moment = t; calls = Pump t ∷ [] }

-- a step, if it comes before what is due
abbrev pub kept_first : Option Candidate → Option Step → Option Step
kept_first due None = None
kept_first due (Some s) = if is_before (moment_of s.call) due then Some s else None

-- the next of some steps, if it comes before what is due
abbrev pub first_step : List Step → ℕ → Option Candidate → Option Step
first_step steps next due = kept_first due (slice_get steps next)
