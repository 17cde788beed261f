-- Proved facts about the program's answers. Each law is a clause of a function.
use Rattle.std.specs.Prelude.{codes, ◌≡◌, ℕ, List, reverse, Some, Ok, Err, ◌⊎◌}
use Rattle.raw_events.specs.declared.event.RawEvent.{RawEvent}
use Rattle.dispatch_calls.specs.declared.call.Call.{Call}
use Rattle.dispatch_history.specs.Effect.{Effect, past_of}
use Rattle.dispatch_history.specs.Given.{given_calls}
use Rattle.dispatch_history.specs.Legal.{replay}
use Rattle.dispatch_history.specs.Ordered.{Rounds}
use Rattle.dispatch_history.specs.Plan.{Line}
use Rattle.session_plan.specs.DeviceDisplays.{device_displays}
use Rattle.session_plan.specs.Plan.{PlanData}
use Rattle.command_words.specs.Command.{Recorded, inspect, replay as replays, why as whys}
use Rattle.command_words.specs.Forms.{form_of}
use Rattle.run_laws.specs.Fitting.{NoneRefused}
use Rattle.command_files.specs.Judged.{Answer, Origin}
use Rattle.command_files.specs.Planned.{run_of}
use Rattle.command_answers.specs.Program.{AnswersTo, IsAlone, IsAnswer}
use Rattle.command_files.specs.Refused.{Refused, too_long}

-- No args of a session are refused in its ordered run, however far that has come, whatever the events of its recording.
abbrev pub RunTakes : Type 0
RunTakes = (plan : PlanData) (past : List RawEvent) (es : List Effect) → Rounds (run_of plan past) es → NoneRefused (past_of es)

-- Nor are any in the run of a given order, as those that `check` follows and that `race` comes to.
abbrev pub OrderTakes : Type 0
OrderTakes =
    (plan : PlanData) (past : List RawEvent) (lines : List Line) (calls : List Call)
    → given_calls (run_of plan past) lines ≡ Ok calls → NoneRefused (replay (device_displays plan.devices) (reverse calls))

-- The words have at most one answer by one set of files, and by the readings of one call, unless they are those of `race`.
abbrev pub OneAnswer : Type 0
OneAnswer =
    (from : Origin) (words : List (List ℕ)) (a b : Answer)
    → IsAlone (form_of words) → IsAnswer from words a → IsAnswer from words b → b ≡ a

-- If a refusal is an answer, it is the only one, even for the words of `race`.
abbrev pub OneRefusal : Type 0
OneRefusal =
    (from : Origin) (words : List (List ℕ)) (r : Refused) (a : Answer)
    → IsAnswer from words (Err r) → IsAnswer from words a → a ≡ Err r

-- What `inspect` refuses for two files, `replay` refuses in the same way.
abbrev pub InspectRefuses : Type 0
InspectRefuses =
    (from : Origin) (files : Recorded) (r : Refused) → AnswersTo from (Some (inspect files)) (Err r) → AnswersTo from (Some (replays files)) (Err r)

-- What `replay` refuses for two files, `inspect` refuses in the same way, unless the run is too long.
abbrev pub ReplayRefuses : Type 0
ReplayRefuses =
    (from : Origin) (files : Recorded) (r : Refused)
    → AnswersTo from (Some (replays files)) (Err r) → AnswersTo from (Some (inspect files)) (Err r) ⊎ (r ≡ too_long (codes "run"))

-- What `why` refuses for two files, `replay` refuses in the same way, and vice versa.
abbrev pub WhyRefuses : Type 0
WhyRefuses =
    (from : Origin) (files : Recorded) (r : Refused)
    → (AnswersTo from (Some (whys files)) (Err r) → AnswersTo from (Some (replays files)) (Err r))
    × (AnswersTo from (Some (replays files)) (Err r) → AnswersTo from (Some (whys files)) (Err r))
