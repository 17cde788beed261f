-- The result of an order, by the size of its input.
use Rattle.std.proofs.Common.{◌≡◌, ◌∙◌, ◌<◌, ◌≤◌, ℕ, Bool, true, false, List, Err, codes, cond, nat_le, length, map, ap, refl, arith}
use Rattle.std.proofs.lemmas.Bool.{le-leb, leb-true}
use Rattle.raw_events.specs.declared.event.RawEvent.{RawEvent}
use Rattle.dispatch_history.specs.Given as history
use Rattle.dispatch_history.specs.Plan.{Plan, Cooked}
use Rattle.given_run.specs.declared.cooked.Cooked.{Cooked as GivenArgs}
use Rattle.given_run.specs.Planned.{cooked_of, whole_plan}
use Rattle.stream_text.specs.OrderAsks.{line_of}
use Rattle.schedule.specs.declared.plan.Plan.{Plan as RunPlan}
use Rattle.schedule.specs.Planned.{plan_of}
use Rattle.session_plan.specs.Plan.{PlanData}
use Rattle.stream_text.specs.declared.order_line.OrderLine.{OrderLine}
use Rattle.command_answers.specs.Checked.{followed, steps_judged}
use Rattle.command_files.specs.Planned.{given, run_of, script_of}
use Rattle.command_files.specs.Refused.{too_long}

above : (n m : ℕ) (b : Bool) → nat_le n m ≡ b → m < n → b ≡ false
above n m false e h = refl
above n m true e h = absurd (omega (arith, h, leb-true n m e))

not_within : (n m : ℕ) → m < n → nat_le n m ≡ false
not_within n m h = above n m (nat_le n m) refl h

pub too_many_args : (p : PlanData) (past : List RawEvent) (lines : List OrderLine) → 20000 < length (given p past) → followed p past lines ≡ Err (too_long (codes "run"))
too_many_args p past lines h =
    ap (λ (b : Bool). cond b (cond (nat_le (length lines) 8000000) (steps_judged p (history.given_calls (run_of p past) (map line_of lines))) (Err (too_long (codes "run")))) (Err (too_long (codes "run"))))
    (not_within (length (given p past)) 20000 h)

few_args : (p : PlanData) (past : List RawEvent) (lines : List OrderLine) → length (given p past) ≤ 20000
    → followed p past lines ≡ cond (nat_le (length lines) 8000000) (steps_judged p (history.given_calls (run_of p past) (map line_of lines))) (Err (too_long (codes "run")))
few_args p past lines h =
    ap (λ (b : Bool). cond b (cond (nat_le (length lines) 8000000) (steps_judged p (history.given_calls (run_of p past) (map line_of lines))) (Err (too_long (codes "run")))) (Err (too_long (codes "run"))))
    (le-leb (length (given p past)) 20000 h)

pub too_many_lines : (p : PlanData) (past : List RawEvent) (lines : List OrderLine) → length (given p past) ≤ 20000 → 8000000 < length lines
    → followed p past lines ≡ Err (too_long (codes "run"))
too_many_lines p past lines few h =
    few_args p past lines few
    ∙ ap (λ (b : Bool). cond b (steps_judged p (history.given_calls (run_of p past) (map line_of lines))) (Err (too_long (codes "run")))) (not_within (length lines) 8000000 h)

pub steps_follow : (p : PlanData) (past : List RawEvent) (lines : List OrderLine) → length (given p past) ≤ 20000 → length lines ≤ 8000000
    → followed p past lines ≡ steps_judged p (history.given_calls (run_of p past) (map line_of lines))
steps_follow p past lines few h =
    few_args p past lines few
    ∙ ap (λ (b : Bool). cond b (steps_judged p (history.given_calls (run_of p past) (map line_of lines))) (Err (too_long (codes "run")))) (le-leb (length lines) 8000000 h)

-- the plan that is run is that of the session and its args
pub same_plan : (plan : RunPlan) (all : List GivenArgs) (p : PlanData) (past : List RawEvent) → plan_of plan ≡ script_of p → map cooked_of all ≡ given p past
    → whole_plan plan all ≡ run_of p past
same_plan plan all p past script args =
    ap (λ (r : Plan). record r { cooked = map cooked_of all }) script ∙ ap (λ (cs : List Cooked). record (script_of p) { cooked = cs }) args
