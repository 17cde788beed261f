-- A run of a given order with one call more.
use Rattle.std.proofs.Common.{◌≡◌, ℕ, ◌+◌, ◌≤◌, ◌<◌, true, false, List, ◌∷◌, drop, length, map, get_or, Some, None, refl, sym, ap, ◌∙◌, subst, arith}
use Rattle.std.proofs.lemmas.Bool.{true≢false}
use Rattle.std.proofs.lemmas.List.{drop-map, drop_all, drop_more}
use Rattle.dispatch_calls.specs.declared.call.Call.{Call}
use Rattle.dispatch_calls.specs.declared.call.Call.TheVariants.{Open, Windows, FocusOn, Notify, Pump, Tick, Receive, Finish, Pilfer, Remove}
use Rattle.dispatch_calls.specs.declared.reply.Reply.{Reply}
use Rattle.dispatch_history.specs.Effect.{Effect, past_of}
use Rattle.dispatch_history.specs.Given.{next_args, without_first, call_of, args_after, steps_after}
use Rattle.dispatch_history.specs.History.{History, opened}
use Rattle.dispatch_history.specs.Legal.{answered}
use Rattle.dispatch_history.specs.Ordered.{begun, is_scripted}
use Rattle.dispatch_history.specs.Plan.{Plan, Cooked, ScriptStep, Line}
use Rattle.dispatch_history.specs.Reply.{reply_to}
use Rattle.schedule.specs.Kinds.{is_opening}
use Rattle.schedule.specs.State.{Has, ScheduleState}
use Rattle.schedule.proofs.Opening.{fresh_begun}
use Rattle.given_run.specs.declared.cooked.Cooked.{Cooked as Handed}
use Rattle.given_run.specs.Following.{Comes, Makes}
use Rattle.given_run.specs.Lanes.{IsLeft}
use Rattle.given_run.specs.Planned.{cooked_of}
use Rattle.given_run.specs.State.{GivenState}

-- a call that opens nothing leaves as many channels
opened_same : (call : Call) (answer : Reply) (h : History) → is_opening call ≡ false → opened ((call, answer) ∷ h) ≡ opened h
opened_same (Open terms) answer h e = absurd (true≢false e)
opened_same (Windows now shown) answer h e = refl
opened_same (FocusOn now d channel keys) answer h e = refl
opened_same (Notify now a) answer h e = refl
opened_same (Pump now) answer h e = refl
opened_same (Tick now) answer h e = refl
opened_same (Receive channel) answer h e = refl
opened_same (Finish now channel seq) answer h e = refl
opened_same (Pilfer now channel device) answer h e = refl
opened_same (Remove now channel) answer h e = refl

one_at_most : (call : Call) → is_scripted call ≤ 1
one_at_most (Open terms) = omega arith
one_at_most (Windows now shown) = omega arith
one_at_most (FocusOn now d channel keys) = omega arith
one_at_most (Notify now a) = omega arith
one_at_most (Pump now) = omega arith
one_at_most (Tick now) = omega arith
one_at_most (Receive channel) = omega arith
one_at_most (Finish now channel seq) = omega arith
one_at_most (Pilfer now channel device) = omega arith
one_at_most (Remove now channel) = omega arith

-- one call more, with what is left then
pub one_more : (plan : Plan) (n : ℕ) (es : List Effect) (cs ds : List Cooked) (ss ts : List ScriptStep) (s t : GivenState) (call : Call)
    → Comes plan n es cs ss s → is_opening call ≡ false → Has plan (answered plan.displays call es) t.run
    → ds ≡ drop t.taken plan.cooked → IsLeft plan.steps ts t.lanes → Comes plan (n + 1) (answered plan.displays call es) ds ts t
one_more plan n es cs ds ss ts s t call h never has args steps =
    record {
      has = has;
      few = omega (arith, h.few, one_at_most call);
      opened_is = opened_same call (reply_to es call) (past_of es) never ∙ h.opened_is;
      args_are = args;
      steps_are = steps;
    }

-- the run of a plan whose channels are opened
pub comes_first : (plan : Plan) (s : GivenState) → length plan.channels ≤ 64 → Has plan (begun plan) s.run → s.taken ≡ 0 → IsLeft plan.steps plan.steps s.lanes
    → Comes plan 0 (begun plan) plan.cooked plan.steps s
comes_first plan s few has taken steps =
    let f = fresh_begun plan few in
    record {
      has = has;
      few = omega (arith, f.none_scripted);
      opened_is = f.opened_is;
      args_are = sym (ap (λ k. drop k plan.cooked) taken);
      steps_are = steps;
    }

-- a run of a plan is one of that plan with other args
pub has_whole : (plan : Plan) (cs : List Cooked) (es : List Effect) (s : ScheduleState) → Has plan es s → Has (record plan { cooked = cs }) es s
has_whole plan cs es s h =
    record {
      stands = h.stands;
      displays_are = h.displays_are;
      noted = h.noted;
      drained = h.drained;
      as_many = h.as_many;
      causes_are = h.causes_are;
      next_is = h.next_is;
      calls_are = h.calls_are;
      released_are = h.released_are;
    }

-- the next of some args
pub args_next : (cooked : List Handed) (k : ℕ) (x : Handed) (cs : List Cooked) → k < length cooked → get_or cooked k x ≡ x → cs ≡ drop k (map cooked_of cooked)
    → (next_args cs ≡ Some (Notify x.moment x.args)) × (without_first cs ≡ drop (k + 1) (map cooked_of cooked))
args_next cooked k x cs lt is e = (ap next_args (e ∙ here), ap without_first (e ∙ here))
  where
    here : drop k (map cooked_of cooked) ≡ cooked_of x ∷ drop (k + 1) (map cooked_of cooked)
    here =
        drop-map cooked_of k cooked ∙ ap (map cooked_of) (drop_more cooked k x lt)
        ∙ ap (λ y. cooked_of y ∷ map cooked_of (drop (k + 1) cooked)) is
        ∙ ap (λ xs. cooked_of x ∷ xs) (sym (drop-map cooked_of (k + 1) cooked))

-- none are left
pub args_end : (cooked : List Handed) (k : ℕ) (cs : List Cooked) → length cooked ≤ k → cs ≡ drop k (map cooked_of cooked) → next_args cs ≡ None
args_end cooked k cs le e = ap next_args (e ∙ drop-map cooked_of k cooked ∙ ap (map cooked_of) (drop_all k cooked le))

-- a call that hands in moment 0 was made
pub made_at : (plan : Plan) (line : Line) (n : ℕ) (es : List Effect) (cs : List Cooked) (ss : List ScriptStep) (s : GivenState) (call : ℕ → Call) (t : ℕ)
    → t ≡ 0 → call_of line cs ss ≡ Some (call 0)
    → Comes plan (n + 1) (answered plan.displays (call t) es) (args_after line cs) (steps_after line ss) s → Makes plan line n es cs ss s true
made_at plan line n es cs ss s call t zero is h =
    (call 0, is, subst (λ m. Comes plan (n + 1) (answered plan.displays (call m) es) (args_after line cs) (steps_after line ss) s) zero h)
