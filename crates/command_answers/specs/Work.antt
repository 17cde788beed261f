-- What `work` says about the run of a workload.
use Rattle.std.specs.Prelude.{codes, ◌≡◌, ℕ, zero, suc, ◌+◌, List, ◌++◌, length, reverse, Ok, Err, []}
use Rattle.std.specs.Fmt.{decimal}
use Rattle.std.specs.Option.{unwrap_or}
use Rattle.raw_events.specs.declared.event.RawEvent.{RawEvent}
use Rattle.session_plan.specs.DeviceDisplays.{device_displays}
use Rattle.dispatch_history.specs.Due.{counts, anrs}
use Rattle.dispatch_history.specs.Effect.{Effect}
use Rattle.dispatch_history.specs.Plan.{Cooked}
use Rattle.dispatch_history.specs.Ordered.{Ordered}
use Rattle.schedule.specs.Run.{IsWithin}
use Rattle.schedule.specs.Printing.{end_of}
use Rattle.stream_text.specs.StreamsHistory.{anr_lines, unopened}
use Rattle.workload_maker.specs.Events.{events_of}
use Rattle.workload_maker.specs.Session.{session}
use Rattle.command_files.specs.Judged.{Answer}
use Rattle.command_files.specs.Planned.{given, run_of}
use Rattle.command_files.specs.Refused.{too_long}
use Rattle.command_answers.specs.Replay.{Overruns}
use Rattle.command_answers.specs.Whole.{AreWhole}

-- the first two lines: the workload, and how many args its events give
abbrev pub head : ℕ → ℕ → ℕ → List ℕ
head seed packets args =
    codes "work " ++ (decimal seed ++ (codes " " ++ (decimal packets ++ (codes "\nargs " ++ (decimal args ++ codes "\n")))))

-- the last lines of the sections of this many channels, the first of which has number k
abbrev pub end_lines : ℕ → ℕ → List Effect → List ℕ
end_lines k zero es = []
end_lines k (suc n) es = end_of k (unwrap_or (counts es k) unopened) ++ end_lines (k + 1) n es

-- how far each of the five channels came, and which were reported unresponsive
abbrev pub summary : ℕ → ℕ → ℕ → List Effect → List ℕ
summary seed packets args es = head seed packets args ++ (end_lines 1 5 es ++ anr_lines (anrs es))

-- the events of a workload of ten fingers, newest first
abbrev pub work_past : ℕ → ℕ → List RawEvent
work_past seed packets = reverse (events_of seed packets 10)

-- what these events give
abbrev pub work_given : ℕ → ℕ → List Cooked
work_given seed packets = given session (work_past seed packets)

-- the text sums up the ordered run of the workload, whose calls and messages are within the limits, and whose streams
-- are whole
pub record Worked (seed packets : ℕ) (text : List ℕ) : Type 0 where
  pub es : List Effect
  pub ordered : Ordered (run_of session (work_past seed packets)) es
  pub within : IsWithin es
  pub whole : AreWhole (device_displays session.devices) es
  pub text_is : text ≡ summary seed packets (length (work_given seed packets)) es

-- the summary of a workload, or that its run is too long
abbrev pub Works : ℕ → ℕ → Answer → Type 0
Works seed packets (Ok text) = Worked seed packets text
Works seed packets (Err r) = Overruns session (work_past seed packets) × (r ≡ too_long (codes "run"))
