-- The args of a given order are accepted.
use Rattle.std.proofs.Common.{◌≡◌, ℕ, ◌+◌, ◌==◌, Bool, true, false, cond, List, [], ◌∷◌, ◌++◌, reverse, Option, Some, None, refl, sym, ap, ◌∙◌, subst, append_assoc, append-nil}
use Rattle.std.specs.Prelude.{Result, Ok, Err}
use Rattle.dispatch_calls.specs.declared.call.Call.{Call}
use Rattle.dispatch_calls.specs.declared.call.Call.TheVariants.{Notify, Pump, Tick, Receive, Finish}
use Rattle.dispatch_history.specs.Effect.{Effect, past_of}
use Rattle.dispatch_history.specs.Legal.{answered, run}
use Rattle.dispatch_history.specs.Ordered.{is_notified, extend}
use Rattle.dispatch_history.specs.Given.{opens, next_of_lane, without_next, then_rest, next_args, without_first, line_calls, after_opens}
use Rattle.dispatch_history.specs.Plan.{Plan, Cooked, ScriptStep, Line, ReaderLine, ScriptLine, PumpLine, TickLine, ReceiveLine, FinishLine}
use Rattle.run_laws.specs.Laws.{GivenTakes}
use Rattle.run_laws.specs.Fitting.{KeepRule, HandNone, NoneRefused}
use Rattle.run_laws.proofs.Keeping.{Keeps, next_call, nothing_yet, quiet_call, quiet_calls, quiet_opens}
use Rattle.dispatch_history.proofs.GivenLines.{extend_run}

first_then : (call : Call) (n : ℕ) (r : Result (List Call) ℕ) (calls : List Call) → then_rest (Some call) n r ≡ Ok calls
    → (rest : List Call) × (r ≡ Ok rest) × (calls ≡ call ∷ rest)
first_then call n (Ok rest) calls e = (rest, refl, cc)
first_then call n (Err k) calls e = absurd (cc e)

lane_quiet : (l : ℕ) (ss : List ScriptStep) (call : Call) → HandNone ss → next_of_lane l ss ≡ Some call → is_notified call ≡ 0
lane_quiet l [] call h e = absurd (cc e)
lane_quiet l (s ∷ ss) call h e = by_lane (s.lane == l) e (λ f. lane_quiet l ss call h.1 f)
  where
    by_lane : (b : Bool) → cond b (Some s.call) (next_of_lane l ss) ≡ Some call → (next_of_lane l ss ≡ Some call → is_notified call ≡ 0)
        → is_notified call ≡ 0
    by_lane true e more = let same : s.call ≡ call = cc in ap is_notified (sym same) ∙ h.0
    by_lane false e more = more e

others_hand_none : (l : ℕ) (ss : List ScriptStep) → HandNone ss → HandNone (without_next l ss)
others_hand_none l [] h = tt
others_hand_none l (s ∷ ss) h =
    elim (s.lane == l) as (λ b. HandNone (cond b ss (s ∷ without_next l ss))) [
      | true ↦ h.1
      | false ↦ (h.0, others_hand_none l ss h.1)
    ]

-- whatever the calls of these lines are, none of their args is refused
abbrev TakesAll : List ℕ → List Line → ℕ → List Cooked → List Cooked → List ScriptStep → Type 0
TakesAll ds lines n front left ss =
    (es : List Effect) (calls : List Call) → Keeps front left (past_of es) → line_calls n left ss lines ≡ Ok calls → NoneRefused (past_of (extend ds es calls))

-- a line whose call hands in nothing
quiet_line : (ds : List ℕ) (lines : List Line) (n : ℕ) (front left : List Cooked) (ss : List ScriptStep) (es : List Effect) (calls : List Call) (call : Call)
    → TakesAll ds lines (n + 1) front left ss → Keeps front left (past_of es) → is_notified call ≡ 0
    → then_rest (Some call) n (line_calls (n + 1) left ss lines) ≡ Ok calls → NoneRefused (past_of (extend ds es calls))
quiet_line ds lines n front left ss es calls call more k quiet e =
    let f = first_then call n (line_calls (n + 1) left ss lines) calls e in
    subst (λ cs. NoneRefused (past_of (extend ds es cs))) (sym f.2) (more (answered ds call es) f.0 (quiet_call ds es call front left quiet k) f.1)

-- the next step of a lane
step_line : (ds : List ℕ) (lines : List Line) (n l : ℕ) (front left : List Cooked) (ss : List ScriptStep) (es : List Effect) (calls : List Call) (o : Option Call)
    → HandNone ss → TakesAll ds lines (n + 1) front left (without_next l ss) → Keeps front left (past_of es) → next_of_lane l ss ≡ o
    → then_rest o n (line_calls (n + 1) left (without_next l ss) lines) ≡ Ok calls → NoneRefused (past_of (extend ds es calls))
step_line ds lines n l front left ss es calls None steps more k at e = absurd (cc e)
step_line ds lines n l front left ss es calls (Some call) steps more k at e =
    quiet_line ds lines n front left (without_next l ss) es calls call more k (lane_quiet l ss call steps at) e

-- the next args
args_line : (ds : List ℕ) (lines : List Line) (n : ℕ) (front left : List Cooked) (ss : List ScriptStep) (es : List Effect) (calls : List Call)
    → KeepRule (front ++ left) → ((a : Cooked) (rest : List Cooked) → left ≡ a ∷ rest → TakesAll ds lines (n + 1) (front ++ a ∷ []) rest ss)
    → Keeps front left (past_of es) → then_rest (next_args left) n (line_calls (n + 1) (without_first left) ss lines) ≡ Ok calls
    → NoneRefused (past_of (extend ds es calls))
args_line ds lines n front [] ss es calls rule more k e = absurd (cc e)
args_line ds lines n front (a ∷ left) ss es calls rule more k e =
    let f = first_then (Notify a.moment a.args) n (line_calls (n + 1) left ss lines) calls e in
    subst (λ cs. NoneRefused (past_of (extend ds es cs))) (sym f.2)
    (more a left refl (answered ds (Notify a.moment a.args) es) f.0 (next_call ds es a front left rule k) f.1)

lines_keep : (ds : List ℕ) (lines : List Line) (n : ℕ) (front left : List Cooked) (ss : List ScriptStep)
    → KeepRule (front ++ left) → HandNone ss → TakesAll ds lines n front left ss
lines_keep ds [] n front left ss rule steps es calls k e = let none : [] ≡ calls = cc in subst (λ cs. NoneRefused (past_of (extend ds es cs))) none k.none
lines_keep ds (ReaderLine ∷ lines) n front left ss rule steps es calls k e =
    args_line ds lines n front left ss es calls rule
    (λ a rest is.
    lines_keep ds lines (n + 1) (front ++ a ∷ []) rest ss (subst KeepRule (ap (λ cs. front ++ cs) is ∙ sym (append_assoc front (a ∷ []) rest)) rule) steps)
    k e
lines_keep ds (ScriptLine l ∷ lines) n front left ss rule steps es calls k e =
    step_line ds lines n l front left ss es calls (next_of_lane l ss) steps
    (lines_keep ds lines (n + 1) front left (without_next l ss) rule (others_hand_none l ss steps)) k refl e
lines_keep ds (PumpLine ∷ lines) n front left ss rule steps es calls k e =
    quiet_line ds lines n front left ss es calls (Pump 0) (lines_keep ds lines (n + 1) front left ss rule steps) k refl e
lines_keep ds (TickLine ∷ lines) n front left ss rule steps es calls k e =
    quiet_line ds lines n front left ss es calls (Tick 0) (lines_keep ds lines (n + 1) front left ss rule steps) k refl e
lines_keep ds (ReceiveLine c ∷ lines) n front left ss rule steps es calls k e =
    quiet_line ds lines n front left ss es calls (Receive c) (lines_keep ds lines (n + 1) front left ss rule steps) k refl e
lines_keep ds (FinishLine c seq ∷ lines) n front left ss rule steps es calls k e =
    quiet_line ds lines n front left ss es calls (Finish 0 c seq) (lines_keep ds lines (n + 1) front left ss rule steps) k refl e

-- the effects of calls behind those that open the channels
opened_then : (ds : List ℕ) (es : List Effect) (cs later : List Call) → extend ds es (cs ++ later) ≡ extend ds (extend ds es cs) later
opened_then ds es [] later = refl
opened_then ds es (c ∷ cs) later = opened_then ds (answered ds c es) cs later

given_by : (plan : Plan) (lines : List Line) (calls : List Call) (r : Result (List Call) ℕ) → KeepRule plan.cooked → HandNone plan.steps
    → line_calls 0 plan.cooked plan.steps lines ≡ r → after_opens plan.channels r ≡ Ok calls → NoneRefused (past_of (extend plan.displays [] calls))
given_by plan lines calls (Err n) rule steps e f = absurd (cc f)
given_by plan lines calls (Ok rest) rule steps e f =
    let is : opens plan.channels ++ rest ≡ calls = cc in
    subst (λ cs. NoneRefused (past_of (extend plan.displays [] cs))) is
    (subst (λ es. NoneRefused (past_of es)) (sym (opened_then plan.displays [] (opens plan.channels) rest))
    (lines_keep plan.displays lines 0 [] plan.cooked plan.steps rule steps (extend plan.displays [] (opens plan.channels)) rest
    (quiet_calls plan.displays [] (opens plan.channels) [] plan.cooked (quiet_opens plan.channels) (nothing_yet plan.cooked)) e))

pub given_takes : GivenTakes
given_takes plan lines calls rule steps e =
    subst (λ es. NoneRefused (past_of es)) (extend_run plan.displays [] calls ∙ ap (run plan.displays) (append-nil (reverse calls)))
    (given_by plan lines calls (line_calls 0 plan.cooked plan.steps lines) rule steps refl e)
