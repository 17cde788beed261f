-- The result of a finished run.
use Rattle.std.proofs.Common.{◌≡◌, List, ℕ, Ok, Err, ◌∙◌, refl, ap, map, codes}
use Rattle.raw_events.specs.declared.event.RawEvent.{RawEvent}
use Rattle.dispatch_history.specs.Effect.{Effect}
use Rattle.dispatch_history.specs.Ordered.{Ordered, Rounds}
use Rattle.session_plan.specs.DeviceDisplays.{device_displays}
use Rattle.session_plan.specs.Plan.{ChannelData, PlanData}
use Rattle.stream_text.specs.StreamsHistory.{streams_text}
use Rattle.schedule.specs.Run.{IsTooLong, IsWithin}
use Rattle.command_files.specs.Planned.{run_of}
use Rattle.command_files.specs.Refused.{too_long}
use Rattle.command_answers.specs.declared.running.Sending.{Sending}
use Rattle.command_answers.specs.declared.running.Sending.TheVariants.{Streams, Causes}
use Rattle.command_answers.specs.Running.{Comes, text_by}
use Rattle.command_answers.specs.Whole.{AreWhole}

pub comes_to : (what : Sending) (p : PlanData) (past : List RawEvent) (es : List Effect) (channels : List ChannelData) (text : List ℕ)
    → Ordered (run_of p past) es → IsWithin es → AreWhole (device_displays p.devices) es → channels ≡ p.channels
    → text ≡ text_by what (device_displays p.devices) (map (λ d. d.name) channels) es → Comes what p past (Ok text)
comes_to Streams p past es channels text ordered within whole same is =
    record {
      es = es;
      ordered = ordered;
      within = within;
      whole = whole;
      text_is = is ∙ ap (λ (cs : List ChannelData). streams_text (map (λ d. d.name) cs) es) same;
    }
comes_to Causes p past es channels text ordered within whole same is =
    record { es = es; ordered = ordered; within = within; text_is = is }

-- a run that is too long
pub too_many : (what : Sending) (p : PlanData) (past : List RawEvent) (es : List Effect) → Rounds (run_of p past) es → IsTooLong es
    → Comes what p past (Err (too_long (codes "run")))
too_many Streams p past es rounds more = (record { es = es; rounds = rounds; too_many = more }, refl)
too_many Causes p past es rounds more = (record { es = es; rounds = rounds; too_many = more }, refl)
