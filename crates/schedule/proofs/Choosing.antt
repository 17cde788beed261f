-- The soonest of all that may be done next, found step by step.
use Rattle.std.proofs.Common.{◌≡◌, ℕ, ◌≤◌, nat_lt, ◌==◌, Bool, true, false, cond, List, [], ◌∷◌, ◌++◌, length, Option, Some, None, refl, sym, ap, ap₂, ◌∙◌, arith}
use Rattle.std.specs.Prelude.{fold, option_map, slice_get, unwrap_or}
use Rattle.std.proofs.lemmas.Bool.{true≢false}
use Rattle.std.proofs.lemmas.Bool.Decides.{nat_tests}
use Rattle.input_types.specs.declared.message.Args.{Args}
use Rattle.dispatch_history.specs.History.{moment_of}
use Rattle.dispatch_history.specs.Queue.{inbound}
use Rattle.dispatch_history.specs.Effect.{Effect, past_of}
use Rattle.dispatch_history.specs.KeySent.{repeat_due}
use Rattle.dispatch_history.specs.Due.{Due, first_due}
use Rattle.dispatch_history.specs.Plan.{Plan, ScriptStep}
use Rattle.dispatch_history.specs.Ordered.{Candidate, sooner_of, soonest, all_finishes, due_tick, due_repeat, next_step, scripted}
use Rattle.dispatcher.specs.Access.{any_waits, next_repeat}
use Rattle.dispatcher.specs.DispatchTables.Lawful.{Lawful}
use Rattle.schedule.specs.declared.due.Due.{Due as Found}
use Rattle.schedule.specs.DueView.{candidate_of, sooner_due}
use Rattle.schedule.specs.Choosing.{dues_of, is_before, is_due_by, next_finishes, tick_of, repeat_at}
use Rattle.schedule.specs.Next.{fore, sooner_with}
use Rattle.schedule.specs.State.{Caught}
use Rattle.schedule.proofs.Finishes.{all_first}
use Rattle.schedule.proofs.Soonest.{soonest_more}

-- the sooner of two candidates is that of what was found
pub sooner_found : (best due : Option Found) → sooner_with (option_map candidate_of best) (option_map candidate_of due) ≡ option_map candidate_of (sooner_due best due)
sooner_found None None = refl
sooner_found None (Some d) = refl
sooner_found (Some b) None = refl
sooner_found (Some b) (Some d) = by_test (nat_lt d.moment b.moment)
  where
    by_test : (v : Bool) → Some (cond v (candidate_of d) (candidate_of b)) ≡ option_map candidate_of (cond v (Some d) (Some b))
    by_test true = refl
    by_test false = refl

with_tick : (o : Option Candidate) (d : Option Due) → fold sooner_of o (due_tick d) ≡ sooner_with o (option_map tick_of d)
with_tick o None = refl
with_tick o (Some d) = refl

with_repeat : (o : Option Candidate) (waiting : List Args) (due : Option ℕ)
    → fold sooner_of o (due_repeat (length waiting == 0) due) ≡ sooner_with o (option_map repeat_at (cond (any_waits waiting) None due))
with_repeat o [] None = refl
with_repeat o [] (Some t) = refl
with_repeat o (a ∷ waiting) due = let not_none : (length (a ∷ waiting) == 0) ≡ false = grind (arith, nat_tests) in rw not_none (none due)
  where
    none : (due : Option ℕ) → fold sooner_of o (due_repeat false due) ≡ o
    none None = refl
    none (Some t) = refl

-- what is due at 5 is due by 5, and not by 4
due_by_five : is_due_by (Some (record { moment = 5; calls = [] })) 5 ≡ true
due_by_five = refl

not_by_four : is_due_by (Some (record { moment = 5; calls = [] })) 4 ≡ false
not_by_four = refl

-- a tick that is due no sooner than what is due by then comes later
pub tick_later : (first : Option Candidate) (due : Option Due) (from : ℕ) → is_due_by first from ≡ true → ((d : Due) → due ≡ Some d → from ≤ d.moment)
    → first ≡ sooner_with first (option_map tick_of due)
tick_later None due from y later = absurd (true≢false (sym y))
tick_later (Some c) None from y later = refl
tick_later (Some c) (Some d) from y later =
    let there : from ≤ d.moment = later d refl in
    let last : nat_lt d.moment c.moment ≡ false = grind (arith, nat_tests) in
    ap (λ b. Some (cond b (tick_of d) c)) (sym last)

-- what is due next, but for steps and args
pub dues_first : (ds : List ℕ) (plan : Plan) (es : List Effect) (first repeat : Option Found) → Lawful ds es → Caught es
    → option_map candidate_of first ≡ sooner_with (next_finishes es 1 plan.channels None) (option_map tick_of (first_due es))
    → option_map candidate_of repeat ≡ option_map repeat_at (next_repeat es)
    → option_map candidate_of (sooner_due first repeat) ≡ soonest (dues_of plan es)
dues_first ds plan es first repeat l h f r =
    sym (sooner_found first repeat)
    ∙ ap₂ sooner_with f r
    ∙ ap (λ o. sooner_with (sooner_with o (option_map tick_of (first_due es))) (option_map repeat_at (next_repeat es))) (sym (all_first ds es 1 plan.channels None l h))
    ∙ ap (λ o. sooner_with o (option_map repeat_at (next_repeat es))) (sym (with_tick (soonest (all_finishes (past_of es) 1 plan.channels)) (first_due es)))
    ∙ sym (with_repeat (fold sooner_of (soonest (all_finishes (past_of es) 1 plan.channels)) (due_tick (first_due es))) (inbound (past_of es)) (repeat_due es))
    ∙ ap (λ o. fold sooner_of o (due_repeat (length (inbound (past_of es)) == 0) (repeat_due es))) (sym (soonest_more (all_finishes (past_of es) 1 plan.channels) (due_tick (first_due es))))
    ∙ sym (soonest_more (all_finishes (past_of es) 1 plan.channels ++ due_tick (first_due es)) (due_repeat (length (inbound (past_of es)) == 0) (repeat_due es)))

-- the step of a script
abbrev pub step_candidate : ScriptStep → Candidate
step_candidate s = record { moment = moment_of s.call; calls = s.call ∷ [] }

fore_first : (plan : Plan) (es : List Effect) → soonest (fore plan es) ≡ fold sooner_of (soonest (dues_of plan es)) (next_step (slice_get plan.steps (scripted (past_of es))))
fore_first plan es = soonest_more (dues_of plan es) (next_step (slice_get plan.steps (scripted (past_of es))))

with_step : (o : Option Candidate) (s : ScriptStep) → fold sooner_of o (step_candidate s ∷ []) ≡ Some (cond (is_before (moment_of s.call) o) (step_candidate s) (unwrap_or o (step_candidate s)))
with_step None s = refl
with_step (Some c) s = refl

-- a step that is before all else is the soonest
pub step_soonest : (plan : Plan) (es : List Effect) (o : Option Candidate) (s : ScriptStep) → o ≡ soonest (dues_of plan es) → slice_get plan.steps (scripted (past_of es)) ≡ Some s
    → is_before (moment_of s.call) o ≡ true → soonest (fore plan es) ≡ Some (step_candidate s)
step_soonest plan es o s due at first =
    fore_first plan es
    ∙ ap₂ (λ x y. fold sooner_of x (next_step y)) (sym due) at
    ∙ with_step o s
    ∙ ap (λ v. Some (cond v (step_candidate s) (unwrap_or o (step_candidate s)))) first

-- a step that is not is none
pub step_later : (plan : Plan) (es : List Effect) (o : Option Candidate) (s : ScriptStep) → o ≡ soonest (dues_of plan es) → slice_get plan.steps (scripted (past_of es)) ≡ Some s
    → is_before (moment_of s.call) o ≡ false → soonest (fore plan es) ≡ o
step_later plan es None s due at first = absurd (true≢false first)
step_later plan es (Some c) s due at first =
    fore_first plan es
    ∙ ap₂ (λ x y. fold sooner_of x (next_step y)) (sym due) at
    ∙ with_step (Some c) s
    ∙ ap (λ v. Some (cond v (step_candidate s) c)) first

pub no_step : (plan : Plan) (es : List Effect) (o : Option Candidate) → o ≡ soonest (dues_of plan es) → slice_get plan.steps (scripted (past_of es)) ≡ None → soonest (fore plan es) ≡ o
no_step plan es o due none = fore_first plan es ∙ ap₂ (λ x y. fold sooner_of x (next_step y)) (sym due) none
