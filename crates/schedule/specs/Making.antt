-- How a part of a run changes the run, whatever the run stood for before.
use Rattle.std.specs.Prelude.{◌≡◌, ℕ, ◌+◌, ◌-◌, ◌^◌, ◌≤◌, ◌<◌, false, List, Result, OnOk}
use Rattle.dispatch_calls.specs.declared.call.Call.{Call}
use Rattle.dispatch_history.specs.Effect.{Effect, past_of}
use Rattle.dispatch_history.specs.Legal.{answered}
use Rattle.dispatch_history.specs.Ordered.{Candidate, extend, is_scripted, round, scripted}
use Rattle.dispatch_history.specs.Plan.{Plan}
use Rattle.dispatcher.specs.Access.{gone}
use Rattle.schedule.specs.declared.keeping.Lines.{Lines}
use Rattle.schedule.specs.Kinds.{is_receiving}
use Rattle.schedule.specs.More.{ComesTo}
use Rattle.schedule.specs.Receives.{receives_of}
use Rattle.schedule.specs.Released.{KeepsUnfinished}
use Rattle.schedule.specs.Run.{messages_in}
use Rattle.schedule.specs.State.{ScheduleState, HasWith, ReadyWith, counted}

-- whether or not it succeeds, nothing is undone: the run has some calls more
abbrev pub GoesOn : (old new : ScheduleState) → Type 0
GoesOn old new = (es : List Effect) → ComesTo es old.dispatcher → ComesTo es new.dispatcher

-- The run goes on, and the latest moment of args stays.
pub record GoesOnAt (old new : ScheduleState) : Type 0 where
  pub on : GoesOn old new
  pub latest : new.latest ≡ old.latest

-- no channel releases a message
abbrev pub ReleasesNone : (old new : ScheduleState) → Type 0
ReleasesNone old new = (c : ℕ) → 1 ≤ c → gone new.dispatcher c ≡ gone old.dispatcher c

-- if it succeeds, the run is as after the same effects
abbrev pub Stays : {A E : Type 0} → Result A E → (old new : ScheduleState) → Type 0
Stays result old new = (how : Lines) (plan : Plan) (es : List Effect) → HasWith how plan es old → OnOk result (HasWith how plan es new)

-- if it succeeds, the run has one more call, this one
abbrev pub Makes : {A E : Type 0} → Result A E → Call → (old new : ScheduleState) → Type 0
Makes result call old new =
    (how : Lines) (plan : Plan) (es : List Effect) → HasWith how plan es old → OnOk result (HasWith how plan (answered plan.displays call es) new)

-- if it succeeds, the run has two more calls, these
abbrev pub MakesTwo : {A E : Type 0} → Result A E → (first second : Call) → (old new : ScheduleState) → Type 0
MakesTwo result first second old new =
    (how : Lines) (plan : Plan) (es : List Effect) → HasWith how plan es old
    → OnOk result (HasWith how plan (answered plan.displays second (answered plan.displays first es)) new)

-- if it succeeds after a round, only live channels with an unfinished message may keep any of what these two calls sent
abbrev pub KeepsTwo : {A E : Type 0} → Result A E → (first second : Call) → (old new : ScheduleState) → Type 0
KeepsTwo result first second old new =
    (how : Lines) (plan : Plan) (es : List Effect) → ReadyWith how plan es old
    → OnOk result (KeepsUnfinished (answered plan.displays second (answered plan.displays first es)) new.dispatcher)

-- if it succeeds, the run has one more call, this one, which is no receive, and `next` steps of scripts were made with it
abbrev pub MakesWith : {A E : Type 0} → Result A E → Call → (next : ℕ) → (old new : ScheduleState) → Type 0
MakesWith result call next old new =
    (how : Lines) (plan : Plan) (es : List Effect) → HasWith how plan es old → is_receiving call ≡ false → next ≡ is_scripted call + scripted (past_of es)
    → OnOk result (HasWith how plan (answered plan.displays call es) new)

-- if it succeeds, the owner of a channel has received everything that was published to it
abbrev pub Receives : {A E : Type 0} → Result A E → (channel : ℕ) → (old new : ScheduleState) → Type 0
Receives result channel old new =
    (how : Lines) (plan : Plan) (es : List Effect) → HasWith how plan es old → OnOk result (HasWith how plan (extend plan.displays es (receives_of es channel)) new)

-- if it succeeds, the run has this round more
abbrev pub MakesRound : {A E : Type 0} → Result A E → Candidate → (old new : ScheduleState) → Type 0
MakesRound result candidate old new =
    (how : Lines) (plan : Plan) (es : List Effect) → ReadyWith how plan es old → OnOk result (ReadyWith how plan (round plan es candidate) new)

-- if it succeeds, one call more is counted
abbrev pub CountsOne : {A E : Type 0} → Result A E → (old new : ScheduleState) → Type 0
CountsOne result old new = OnOk result (new.calls ≡ counted (old.calls + 1))

-- if it succeeds, no fewer calls are counted
abbrev pub CountsNoFewer : {A E : Type 0} → Result A E → (old new : ScheduleState) → Type 0
CountsNoFewer result old new = OnOk result (old.calls ≤ new.calls)

-- more calls are counted, up to the greatest number
abbrev pub CountsMore : (old new : ScheduleState) → Type 0
CountsMore old new = old.calls < 2 ^ 64 - 1 → old.calls < new.calls

-- No channel releases a message, the run goes on, and the latest moment of args stays.
pub record KeepsMessages (old new : ScheduleState) : Type 0 where
  pub gone : ReleasesNone old new
  pub more : GoesOnAt old new

-- if it succeeds, all messages that channels were sent are released and counted
abbrev pub CountsAll : {A E : Type 0} → Result A E → List Effect → (new : ScheduleState) → Type 0
CountsAll result es new = OnOk result (new.messages ≡ counted (messages_in es))

-- no fewer messages are counted
abbrev pub NoFewerMessages : (old new : ScheduleState) → Type 0
NoFewerMessages old new = old.messages ≤ new.messages
