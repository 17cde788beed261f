-- A run with one call more.
use Rattle.std.proofs.Common.{◌≡◌, ℕ, suc, ◌+◌, ◌≤◌, false, List, length, sym, ap, ◌∙◌, subst, arith}
use Rattle.std.specs.Prelude.{Result, Ok, Err, OnErr, OnOk}
use Rattle.dispatch_calls.specs.declared.call.Call.{Call}
use Rattle.dispatch_calls.specs.declared.call.Call.TheVariants.{Receive}
use Rattle.dispatch_calls.specs.declared.reply.Reply.{Reply}
use Rattle.dispatch_history.specs.Effect.{Effect, past_of}
use Rattle.dispatch_history.specs.Effects.{step}
use Rattle.dispatch_history.specs.Legal.{answered}
use Rattle.dispatch_history.specs.Plan.{Plan}
use Rattle.dispatch_history.specs.Ordered.{is_scripted, scripted}
use Rattle.dispatcher.specs.Access.{gone, anrs_released}
use Rattle.dispatcher.specs.Dispatching.{Dispatching, IsAfter}
use Rattle.dispatcher.specs.DispatchTables.Lawful.{Lawful}
use Rattle.dispatcher.proofs.DispatchTables.Lawfuls.{lawful_last}
use Rattle.schedule.specs.declared.keeping.Lines.{Lines}
use Rattle.schedule.specs.Causes.{Applies, and_more, sent_of}
use Rattle.schedule.specs.Kinds.{is_receiving}
use Rattle.schedule.specs.Lines.{Drained, lines_first}
use Rattle.schedule.specs.Released.{released}
use Rattle.schedule.specs.State.{ScheduleState, HasWith, counted}
use Rattle.schedule.proofs.Caused.{causes_next, causes_stay}
use Rattle.schedule.proofs.Drained.{first_stays}
use Rattle.schedule.proofs.Releases.{gone_few}
use Rattle.schedule.proofs.Released.{released_step}

-- the effects are lawful for the displays of the plan
pub lawful_of : (how : Lines) (plan : Plan) (es : List Effect) (s : ScheduleState) → HasWith how plan es s → Lawful plan.displays es
lawful_of how plan es s h = subst (λ ds. Lawful ds es) h.displays_are h.stands.lawful

-- the dispatcher is as after one step more, by the displays of the plan
stands_plan : (how : Lines) (plan : Plan) (call : Call) (answer : Reply) (es : List Effect) (s : ScheduleState) (d : Dispatching) → HasWith how plan es s
    → IsAfter (step s.dispatcher.displays call answer es) d → IsAfter (step plan.displays call answer es) d
stands_plan how plan call answer es s d h stands = subst (λ ds. IsAfter (step ds call answer es) d) h.displays_are stands

lawful_plan : (plan : Plan) (fs : List Effect) (d : Dispatching) → d.displays ≡ plan.displays → IsAfter fs d → Lawful plan.displays fs
lawful_plan plan fs d e stands = subst (λ ds. Lawful ds fs) e stands.lawful

one_more : (n k : ℕ) → k ≡ counted n → counted (k + 1) ≡ counted (suc n)
one_more n k e = omega (arith, e)

module _ (how : Lines) (plan : Plan) (es : List Effect) (s t : ScheduleState) (h : HasWith how plan es s) (same : t.dispatcher.displays ≡ s.dispatcher.displays)
    (kept : (c : ℕ) → 1 ≤ c → gone t.dispatcher c ≡ gone s.dispatcher c) (named : anrs_released t.dispatcher ≡ anrs_released s.dispatcher)
    (messages : t.messages ≡ s.messages) where
  released_on : (call : Call) (answer : Reply) → t.messages ≡ counted (released (step plan.displays call answer es) t.dispatcher)
  released_on call answer =
      messages ∙ h.released_are ∙ ap counted (sym (released_step plan.displays call answer es s.dispatcher t.dispatcher h.stands kept))

  drained_on : (call : Call) (answer : Reply) → Lawful plan.displays (step plan.displays call answer es) → t.lines ≡ s.lines
      → Drained (step plan.displays call answer es) t.dispatcher t.lines
  drained_on call answer l lines =
      subst (Drained (step plan.displays call answer es) t.dispatcher) (sym lines)
      (λ c low high.
      h.drained c low high
      ∙ sym (first_stays plan.displays call answer es c (gone s.dispatcher c) l (gone_few es s.dispatcher c h.stands low))
      ∙ ap (λ n. lines_first (step plan.displays call answer es) c n) (sym (kept c low)))

  pub has_step : (call : Call) → Applies call es s.dispatcher.displays s.causes t.causes t.dispatcher → is_receiving call ≡ false
      → t.lines ≡ s.lines → t.next ≡ is_scripted call + scripted (past_of es) → t.calls ≡ counted (s.calls + 1)
      → HasWith how plan (answered plan.displays call es) t
  has_step call applies never lines next calls =
      let answer = applies.answer in
      let stands = applies.stands in
      let causes = subst (λ ds. t.causes ≡ and_more (sent_of ds call answer es) s.causes) h.displays_are applies.causes in
      let there : IsAfter (step plan.displays call answer es) t.dispatcher = stands_plan how plan call answer es s t.dispatcher h stands in
      let l : Lawful plan.displays (step plan.displays call answer es) = lawful_plan plan (step plan.displays call answer es) t.dispatcher (same ∙ h.displays_are) there in
      subst (λ a. HasWith how plan (step plan.displays call a es) t) (lawful_last plan.displays call answer es l).0
      (record {
        stands = there;
        displays_are = same ∙ h.displays_are;
        noted = named ∙ h.noted;
        drained = drained_on call answer l lines;
        as_many = ap length lines ∙ h.as_many;
        causes_are = causes_next how plan.displays call answer es s.causes t.causes h.causes_are causes;
        next_is = next;
        calls_are = calls ∙ one_more (length es) s.calls h.calls_are;
        released_are = released_on call answer;
      })

  pub has_received : (answer : Reply) (c : ℕ) → IsAfter (step s.dispatcher.displays (Receive c) answer es) t.dispatcher
      → t.lines ≡ s.lines → t.causes ≡ s.causes → t.next ≡ s.next → t.calls ≡ counted (s.calls + 1)
      → HasWith how plan (answered plan.displays (Receive c) es) t
  has_received answer c stands lines causes next calls =
      let there : IsAfter (step plan.displays (Receive c) answer es) t.dispatcher = stands_plan how plan (Receive c) answer es s t.dispatcher h stands in
      let l : Lawful plan.displays (step plan.displays (Receive c) answer es) = lawful_plan plan (step plan.displays (Receive c) answer es) t.dispatcher (same ∙ h.displays_are) there in
      subst (λ a. HasWith how plan (step plan.displays (Receive c) a es) t) (lawful_last plan.displays (Receive c) answer es l).0
      (record {
        stands = there;
        displays_are = same ∙ h.displays_are;
        noted = named ∙ h.noted;
        drained = drained_on (Receive c) answer l lines;
        as_many = ap length lines ∙ h.as_many;
        causes_are = causes ∙ h.causes_are ∙ causes_stay how plan.displays c answer es;
        next_is = next ∙ h.next_is ∙ omega arith;
        calls_are = calls ∙ one_more (length es) s.calls h.calls_are;
        released_are = released_on (Receive c) answer;
      })

-- what holds where a call was done, by what it ensures there
pub on_ok : {A E : Type 0} (r : Result A E) (X Y : Type 0) → OnOk r X → (X → Y) → OnOk r Y
on_ok (Ok a) X Y x f = f x
on_ok (Err e) X Y x f = x

-- what holds anyway
pub on_ok_any : {A E : Type 0} (r : Result A E) (X : Type 0) → X → OnOk r X
on_ok_any (Ok a) X x = x
on_ok_any (Err e) X x = tt

-- and that on an error
pub on_err_any : {A E : Type 0} (r : Result A E) (X : Type 0) → X → OnErr r X
on_err_any (Ok a) X x = tt
on_err_any (Err e) X x = x
