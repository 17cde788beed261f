-- A session has one result, and a race that is refused has no text.
use Rattle.std.proofs.Common.{◌≡◌, ℕ, List, length, Ok, Err, sym, ap, ◌∙◌, arith}
use Rattle.raw_events.specs.declared.event.RawEvent.{RawEvent}
use Rattle.dispatch_history.proofs.OrderedLaws.{ordered_unique}
use Rattle.session_plan.specs.DeviceDisplays.{device_displays}
use Rattle.session_plan.specs.Plan.{PlanData}
use Rattle.stream_text.specs.declared.order_line.OrderLine.{OrderLine}
use Rattle.stream_text.specs.StreamsHistory.{streams_text}
use Rattle.why_text.specs.Text.{why_text}
use Rattle.workload_maker.specs.Session.{session}
use Rattle.run_laws.proofs.Growing.{one_outcome}
use Rattle.command_answers.specs.Checked.{IsFollowed, followed}
use Rattle.command_files.specs.Judged.{Answer}
use Rattle.command_files.specs.Planned.{names_of, run_of}
use Rattle.command_answers.specs.Race.{Races}
use Rattle.command_files.specs.Refused.{Refused}
use Rattle.command_answers.specs.Replay.{Overruns, Replayed, Replays}
use Rattle.command_answers.specs.Why.{Explained, Explains}
use Rattle.command_answers.specs.Work.{Worked, Works, summary, work_given, work_past}

replays_one : (plan : PlanData) (past : List RawEvent) (s t : List ℕ) → Replayed plan past s → Replayed plan past t → t ≡ s
replays_one plan past s t x y =
    y.text_is ∙ ap (streams_text (names_of plan)) (ordered_unique (run_of plan past) y.es x.es y.ordered x.ordered) ∙ sym x.text_is

replays_within : (plan : PlanData) (past : List RawEvent) (s : List ℕ) → Replayed plan past s → Overruns plan past → ⊥
replays_within plan past s x y = one_outcome (run_of plan past) x.es y.es x.ordered x.within y.rounds y.too_many

pub replays_once : (plan : PlanData) (past : List RawEvent) (a b : Answer) → Replays plan past a → Replays plan past b → b ≡ a
replays_once plan past (Ok s) (Ok t) x y = ap (λ text. Ok text) (replays_one plan past s t x y)
replays_once plan past (Ok s) (Err r) x y = absurd (replays_within plan past s x y.0)
replays_once plan past (Err r) (Ok t) x y = absurd (replays_within plan past t y x.0)
replays_once plan past (Err r) (Err q) x y = ap (λ refused. Err refused) (y.1 ∙ sym x.1)

explains_one : (plan : PlanData) (past : List RawEvent) (s t : List ℕ) → Explained plan past s → Explained plan past t → t ≡ s
explains_one plan past s t x y =
    y.text_is ∙ ap (why_text (device_displays plan.devices)) (ordered_unique (run_of plan past) y.es x.es y.ordered x.ordered) ∙ sym x.text_is

explains_within : (plan : PlanData) (past : List RawEvent) (s : List ℕ) → Explained plan past s → Overruns plan past → ⊥
explains_within plan past s x y = one_outcome (run_of plan past) x.es y.es x.ordered x.within y.rounds y.too_many

pub explains_once : (plan : PlanData) (past : List RawEvent) (a b : Answer) → Explains plan past a → Explains plan past b → b ≡ a
explains_once plan past (Ok s) (Ok t) x y = ap (λ text. Ok text) (explains_one plan past s t x y)
explains_once plan past (Ok s) (Err r) x y = absurd (explains_within plan past s x y.0)
explains_once plan past (Err r) (Ok t) x y = absurd (explains_within plan past t y x.0)
explains_once plan past (Err r) (Err q) x y = ap (λ refused. Err refused) (y.1 ∙ sym x.1)

works_one : (seed packets : ℕ) (s t : List ℕ) → Worked seed packets s → Worked seed packets t → t ≡ s
works_one seed packets s t x y =
    y.text_is
    ∙ ap (summary seed packets (length (work_given seed packets)))
    (ordered_unique (run_of session (work_past seed packets)) y.es x.es y.ordered x.ordered)
    ∙ sym x.text_is

works_within : (seed packets : ℕ) (s : List ℕ) → Worked seed packets s → Overruns session (work_past seed packets) → ⊥
works_within seed packets s x y = one_outcome (run_of session (work_past seed packets)) x.es y.es x.ordered x.within y.rounds y.too_many

pub works_once : (seed packets : ℕ) (a b : Answer) → Works seed packets a → Works seed packets b → b ≡ a
works_once seed packets (Ok s) (Ok t) x y = ap (λ text. Ok text) (works_one seed packets s t x y)
works_once seed packets (Ok s) (Err r) x y = absurd (works_within seed packets s x y.0)
works_once seed packets (Err r) (Ok t) x y = absurd (works_within seed packets t y x.0)
works_once seed packets (Err r) (Err q) x y = ap (λ refused. Err refused) (y.1 ∙ sym x.1)

followed_is : (plan : PlanData) (past : List RawEvent) (lines : List OrderLine) (a : Answer) → IsFollowed plan past lines a → followed plan past lines ≡ a
followed_is plan past lines (Ok text) x = x.text_is
followed_is plan past lines (Err r) x = x

pub follows_once : (plan : PlanData) (past : List RawEvent) (lines : List OrderLine) (a b : Answer)
    → IsFollowed plan past lines a → IsFollowed plan past lines b → b ≡ a
follows_once plan past lines a b x y = sym (followed_is plan past lines b y) ∙ followed_is plan past lines a x

pub races_refused : (plan : PlanData) (past : List RawEvent) (r : Refused) (a : Answer) → Races plan past (Err r) → Races plan past a → a ≡ Err r
races_refused plan past r (Ok text) x y = absurd (omega (arith, x.0, y.0))
races_refused plan past r (Err q) x y = ap (λ refused. Err refused) (y.1 ∙ sym x.1)
