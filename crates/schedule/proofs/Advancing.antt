-- A round of what is due.
use Rattle.std.proofs.Common.{◌≡◌, ℕ, ◌≤◌, nat_lt, Bool, true, false, cond, List, [], ◌∷◌, map, Option, Some, None, refl, sym, ap, ◌∙◌, subst, arith}
use Rattle.std.specs.Prelude.{IfSome, option_map, slice_get, unwrap_or}
use Rattle.std.proofs.lemmas.Bool.Decides.{nat_tests}
use Rattle.dispatch_calls.specs.declared.call.Call.{Call}
use Rattle.dispatch_calls.specs.declared.call.Call.TheVariants.{Open, Windows, FocusOn, Notify, Pump, Tick, Receive, Finish, Pilfer, Remove}
use Rattle.dispatch_history.specs.History.{moment_of}
use Rattle.dispatch_history.specs.Effect.{Effect, past_of}
use Rattle.dispatch_history.specs.Due.{Due, first_due}
use Rattle.dispatch_history.specs.Plan.{Plan}
use Rattle.dispatch_history.specs.Ordered.{Candidate, soonest, round, is_scripted, is_notified, scripted}
use Rattle.schedule.specs.declared.keeping.Lines.{Lines}
use Rattle.schedule.specs.declared.due.Due.{Due as Found}
use Rattle.schedule.specs.declared.due.What.{What}
use Rattle.schedule.specs.declared.due.What.TheVariants as whats
use Rattle.std.specs.List.{All}
use Rattle.std.proofs.lemmas.Option.{slice_get-map, get_or_from_slice_get, slice_get_within}
use Rattle.schedule.specs.declared.plan.Step.{Step}
use Rattle.schedule.specs.Planned.{step_of, IsStep}
use Rattle.dispatcher.specs.Access.{next_repeat}
use Rattle.dispatcher.specs.DispatchTables.Lawful.{Lawful}
use Rattle.schedule.specs.Choosing.{Advances, dues_of, is_before, is_due_by, kept_first, first_step, next_finishes, repeat_at, tick_of}
use Rattle.schedule.proofs.Choosing.{dues_first, tick_later, step_soonest, step_later, no_step}
use Rattle.schedule.specs.DueView.{call_of, candidate_of, sooner_due}
use Rattle.schedule.specs.Handing.{single}
use Rattle.schedule.specs.Kinds.{is_receiving, is_opening, is_finishing}
use Rattle.schedule.specs.Next.{fore, sooner_with, up_to}
use Rattle.schedule.specs.State.{Caught, ScheduleState, ReadyWith}
use Rattle.schedule.proofs.Going.{first_call, single_notified}
use Rattle.schedule.proofs.Rounds.{within}
use Rattle.schedule.proofs.Stepping.{lawful_of}

-- a call that is no receive and no opening, and hands in nothing
pub record Plain (call : Call) : Type 0 where
  pub receives_not : is_receiving call ≡ false
  pub opens_not : is_opening call ≡ false
  pub notifies_not : is_notified call ≡ 0

pub scripted_plain : (call : Call) → is_scripted call ≡ 1 → Plain call
scripted_plain (Windows now shown) e = record { receives_not = refl; opens_not = refl; notifies_not = refl }
scripted_plain (FocusOn now y channel keys) e = record { receives_not = refl; opens_not = refl; notifies_not = refl }
scripted_plain (Pilfer now channel device) e = record { receives_not = refl; opens_not = refl; notifies_not = refl }
scripted_plain (Remove now channel) e = record { receives_not = refl; opens_not = refl; notifies_not = refl }
scripted_plain (Open terms) e = absurd (omega (arith, e))
scripted_plain (Notify now a) e = absurd (omega (arith, e))
scripted_plain (Pump now) e = absurd (omega (arith, e))
scripted_plain (Tick now) e = absurd (omega (arith, e))
scripted_plain (Receive channel) e = absurd (omega (arith, e))
scripted_plain (Finish now channel seq) e = absurd (omega (arith, e))

pub due_plain : (t : ℕ) (what : What) → Plain (call_of t what)
due_plain t (whats.Finish channel seq) = record { receives_not = refl; opens_not = refl; notifies_not = refl }
due_plain t whats.Tick = record { receives_not = refl; opens_not = refl; notifies_not = refl }
due_plain t whats.Repeat = record { receives_not = refl; opens_not = refl; notifies_not = refl }

pub scripted_unfinished : (call : Call) → is_scripted call ≡ 1 → is_finishing call ≡ false
scripted_unfinished (Finish now channel seq) e = absurd (omega (arith, e))
scripted_unfinished call e = refl

pub due_single : (t : ℕ) (what : What) → single (call_of t what) ≡ record { moment = t; calls = call_of t what ∷ [] }
due_single t (whats.Finish channel seq) = refl
due_single t whats.Tick = refl
due_single t whats.Repeat = refl

pub advances : (how : Lines) (plan : Plan) (es : List Effect) (s t : ScheduleState) (until : ℕ) (call : Call) → ReadyWith how plan es s → Plain call
    → soonest (fore plan es) ≡ Some (single call) → moment_of call ≤ until → ReadyWith how plan (round plan es (single call)) t → Advances how plan until es s t true
advances how plan es s t until call r p first le again = (
  single call,
  ap (up_to until) first ∙ within until (single call) le,
  single_notified plan.displays es call (first_call plan.displays es call (lawful_of how plan es s r.has) r.caught p.opens_not).lawful p.notifies_not,
  again,
)

pub all_get : (P : Step → Type 0) (xs : List Step) (i : ℕ) (x : Step) → All P xs → slice_get xs i ≡ Some x → P x
all_get P xs i x a e = subst P (get_or_from_slice_get xs i x x e) (a i x (slice_get_within xs i x e))

-- the next step comes first
pub step_first : (plan : Plan) (es : List Effect) (due : Option Candidate) (steps : List Step) (s : Step) → due ≡ soonest (dues_of plan es) → plan.steps ≡ map step_of steps
    → All IsStep steps → first_step steps (scripted (past_of es)) due ≡ Some s → (soonest (fore plan es) ≡ Some (single s.call)) × (is_scripted s.call ≡ 1)
step_first plan es due steps s d are all e = by_step (slice_get steps (scripted (past_of es))) refl e
  where
    by_step : (o : Option Step) → slice_get steps (scripted (past_of es)) ≡ o → kept_first due o ≡ Some s → (soonest (fore plan es) ≡ Some (single s.call)) × (is_scripted s.call ≡ 1)
    by_step None at k = absurd (cc k)
    by_step (Some x) at k = by_test (is_before (moment_of x.call) due) refl k
      where
        by_test : (v : Bool) → is_before (moment_of x.call) due ≡ v → cond v (Some x) None ≡ Some s → (soonest (fore plan es) ≡ Some (single s.call)) × (is_scripted s.call ≡ 1)
        by_test true f k =
            let same : x ≡ s = cc in
            subst (λ y. (soonest (fore plan es) ≡ Some (single y.call)) × (is_scripted y.call ≡ 1)) same (
              step_soonest plan es due (step_of x) d (ap (λ xs. slice_get xs (scripted (past_of es))) are ∙ slice_get-map step_of steps (scripted (past_of es)) ∙ ap (option_map step_of) at) f,
              all_get IsStep steps (scripted (past_of es)) x all at,
            )
        by_test false f k = absurd (cc k)

-- no step comes first
pub due_first : (plan : Plan) (es : List Effect) (due : Option Candidate) (steps : List Step) → due ≡ soonest (dues_of plan es) → plan.steps ≡ map step_of steps
    → first_step steps (scripted (past_of es)) due ≡ None → soonest (fore plan es) ≡ due
due_first plan es due steps d are e = by_step (slice_get steps (scripted (past_of es))) refl e
  where
    by_step : (o : Option Step) → slice_get steps (scripted (past_of es)) ≡ o → kept_first due o ≡ None → soonest (fore plan es) ≡ due
    by_step None at k = no_step plan es due d (ap (λ xs. slice_get xs (scripted (past_of es))) are ∙ slice_get-map step_of steps (scripted (past_of es)) ∙ ap (option_map step_of) at)
    by_step (Some x) at k = by_test (is_before (moment_of x.call) due) refl k
      where
        by_test : (v : Bool) → is_before (moment_of x.call) due ≡ v → cond v (Some x) None ≡ None → soonest (fore plan es) ≡ due
        by_test true f k = absurd (cc k)
        by_test false f k =
            step_later plan es due (step_of x) d (ap (λ xs. slice_get xs (scripted (past_of es))) are ∙ slice_get-map step_of steps (scripted (past_of es)) ∙ ap (option_map step_of) at) f

-- what stands for a repeat
abbrev repeat_found : ℕ → Found
repeat_found r = record { moment = r; what = whats.Repeat }

-- its candidate is the repeat
repeat_is : (o : Option ℕ) → option_map candidate_of (option_map repeat_found o) ≡ option_map repeat_at o
repeat_is None = refl
repeat_is (Some r) = refl

-- what may be there is not below a number
pub repeat_late : (t n : ℕ) (o : Option ℕ) → t ≤ unwrap_or o n → IfSome o (λ r. t ≤ r)
repeat_late t n None le = tt
repeat_late t n (Some r) le = le

-- a repeat that is not due before something leaves it the first
stays_first : (d : Found) (o : Option ℕ) → IfSome o (λ r. d.moment ≤ r) → sooner_due (Some d) (option_map repeat_found o) ≡ Some d
stays_first d None late = refl
stays_first d (Some r) late =
    let not_sooner : nat_lt r d.moment ≡ false = grind (arith, nat_tests) in
    ap (λ v. cond v (Some (repeat_found r)) (Some d)) not_sooner

-- a finish before which no tick, no repeat and no step is due is the soonest of all
pub finish_first : (ds : List ℕ) (plan : Plan) (es : List Effect) (t channel seq from : ℕ) (steps : List Step) → Lawful ds es → Caught es
    → next_finishes es 1 plan.channels None ≡ Some (single (Finish t channel seq)) → t ≤ from → ((d : Due) → first_due es ≡ Some d → from ≤ d.moment)
    → IfSome (next_repeat es) (λ r. t ≤ r) → plan.steps ≡ map step_of steps → (o : Option Step) → slice_get steps (scripted (past_of es)) ≡ o → IfSome o (λ s. t ≤ moment_of s.call)
    → soonest (fore plan es) ≡ Some (single (Finish t channel seq))
finish_first ds plan es t channel seq from steps l h finish le ticks repeats are o at later =
    due_first plan es (Some (single (Finish t channel seq))) steps dues are (ap (kept_first (Some (single (Finish t channel seq)))) at ∙ no_step_before o later)
  where
    dues : Some (single (Finish t channel seq)) ≡ soonest (dues_of plan es)
    dues =
        let by : is_due_by (Some (single (Finish t channel seq))) from ≡ true = grind (arith, nat_tests) in
        let found : Found = record { moment = t; what = whats.Finish channel seq } in
        ap (option_map candidate_of) (sym (stays_first found (next_repeat es) repeats))
        ∙ dues_first ds plan es (Some found) (option_map repeat_found (next_repeat es)) l h
        (tick_later (Some (single (Finish t channel seq))) (first_due es) from by ticks ∙ ap (λ o. sooner_with o (option_map tick_of (first_due es))) (sym finish))
        (repeat_is (next_repeat es))

    no_step_before : (p : Option Step) → IfSome p (λ s. t ≤ moment_of s.call) → kept_first (Some (single (Finish t channel seq))) p ≡ None
    no_step_before None ge = refl
    no_step_before (Some s) ge =
        let not_first : nat_lt (moment_of s.call) t ≡ false = grind (arith, nat_tests) in
        ap (λ v. cond v (Some s) None) not_first
