-- The args of a session are accepted.
use Rattle.std.proofs.Common.{◌≡◌, ℕ, zero, suc, ◌+◌, List, [], ◌∷◌, map, Some, is_some, refl, ap, arith}
use Rattle.std.specs.Prelude.{slice_get}
use Rattle.raw_events.specs.declared.event.RawEvent.{RawEvent}
use Rattle.dispatch_history.specs.Ordered.{is_notified}
use Rattle.session_plan.specs.declared.plan.Act.{Act}
use Rattle.session_plan.specs.declared.plan.Act.TheVariants.{Windows, FocusOn, Pilfer, Remove}
use Rattle.session_plan.specs.declared.plan.DeviceKind.{DeviceKind}
use Rattle.session_plan.specs.declared.plan.DeviceKind.TheVariants.{Touch, Keys}
use Rattle.session_plan.specs.declared.plan.Display.{Display}
use Rattle.session_plan.specs.declared.plan.Step.{Step}
use Rattle.session_plan.specs.Plan.{DeviceData, PlanData}
use Rattle.device_reader.specs.Cooked.{DevicePlan, number_of}
use Rattle.device_reader.specs.CookedList.{cooked, plan_of}
use Rattle.device_reader.specs.Rule.{AllKeepRule}
use Rattle.device_reader.proofs.Rule.{all_fit}
use Rattle.run_laws.specs.Fitting.{HandNone, KeepRule}
use Rattle.run_laws.proofs.GivenKeeps.{given_takes}
use Rattle.run_laws.proofs.Handing.{handed_keep}
use Rattle.run_laws.proofs.OrderedKeeps.{ordered_takes}
use Rattle.command_files.specs.Cooked.{device_plan, device_plans, plans_of}
use Rattle.replay_actors.specs.Session.{call_of, step_of}
use Rattle.command_files.specs.Planned.{given, run_of}
use Rattle.answer_laws.specs.Laws.{OrderTakes, RunTakes}

kind_number : (displays : List Display) (k : ℕ) (kind : DeviceKind) → number_of (device_plan displays k kind) ≡ k
kind_number displays k (Touch slots x y display) = refl
kind_number displays k (Keys layout) = refl

-- the i-th device behind a first one with number k
numbered : (displays : List Display) (k i : ℕ) (ds : List DeviceData) (p : DevicePlan)
    → slice_get (device_plans displays k ds) i ≡ Some p → number_of p ≡ k + i
numbered displays k zero [] p e = absurd (cc e)
numbered displays k (suc i) [] p e = absurd (cc e)
numbered displays k zero (d ∷ ds) p e =
    let same : device_plan displays k d.kind ≡ p = cc in
    omega (arith, ap number_of same, kind_number displays k d.kind)
numbered displays k (suc i) (d ∷ ds) p e = omega (arith, numbered displays (k + 1) i ds p e)

in_order : (plan : PlanData) (d : ℕ) (p : DevicePlan) → plan_of (plans_of plan) d ≡ Some p → number_of p ≡ d
in_order plan zero p e = absurd (cc e)
in_order plan (suc i) p e = omega (arith, numbered plan.displays 1 i plan.devices p e)

devices_keep : (plan : PlanData) (past : List RawEvent) → AllKeepRule (plans_of plan) past
devices_keep plan past d = ap is_some (all_fit (plans_of plan) past d (in_order plan))

args_keep : (plan : PlanData) (past : List RawEvent) → KeepRule (given plan past)
args_keep plan past = handed_keep (cooked (plans_of plan) past) (devices_keep plan past)

act_hands_none : (at : ℕ) (act : Act) → is_notified (call_of at act) ≡ 0
act_hands_none at (Windows snapshot) = refl
act_hands_none at (FocusOn display channel) = refl
act_hands_none at (Pilfer channel device) = refl
act_hands_none at (Remove channel) = refl

steps_hand_none : (ss : List Step) → HandNone (map step_of ss)
steps_hand_none [] = tt
steps_hand_none (s ∷ ss) = (act_hands_none s.at s.act, steps_hand_none ss)

pub run_takes : RunTakes
run_takes plan past es r = ordered_takes (run_of plan past) es (args_keep plan past) (steps_hand_none plan.steps) r

pub order_takes : OrderTakes
order_takes plan past lines calls e = given_takes (run_of plan past) lines calls (args_keep plan past) (steps_hand_none plan.steps) e
