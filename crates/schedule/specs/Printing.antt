-- A run that is being printed.
use Rattle.std.specs.Prelude.{◌≡◌, ℕ, ◌≤◌, List, ◌++◌, length, take}
use Rattle.dispatch_history.specs.Effect.{Effect}
use Rattle.dispatch_history.specs.Plan.{Plan}
use Rattle.dispatch_calls.specs.declared.counts.Counts.{Counts}
use Rattle.stream_text.specs.Spelling.{end_line}
use Rattle.dispatcher.specs.Access.{gone}
use Rattle.dispatcher.specs.Dispatching.{IsAfter}
use Rattle.schedule.specs.Lines.{lines_at, lines_first}
use Rattle.schedule.specs.State.{ScheduleState}

-- the last line of a channel's section, with how far the channel has come
abbrev pub end_of : ℕ → Counts → List ℕ
end_of c k = end_line c k.sent k.received k.finished

-- The run is as after these effects, except for the lines of the channels below channel k, which were taken out.
pub record Prints (plan : Plan) (es : List Effect) (k : ℕ) (s : ScheduleState) : Type 0 where
  pub stands : IsAfter es s.dispatcher
  pub drained : (c : ℕ) → 1 ≤ c → k ≤ c → c ≤ length s.lines → lines_at s.lines c ≡ lines_first es c (gone s.dispatcher c)
  pub as_many : length s.lines ≡ length plan.channels

-- a text with a front part of a section more
abbrev pub WithFront : List ℕ → List ℕ → List ℕ → Type 0
WithFront before now section = (count : ℕ) × (now ≡ before ++ take count section)
