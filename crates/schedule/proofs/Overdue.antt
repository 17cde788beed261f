-- Between two rounds of the ordered run no finish that is to come is due before the clock.
use Rattle.std.proofs.Common.{◌≡◌, ℕ, zero, suc, ◌+◌, ◌≤◌, ◌&&◌, not, min, nat_le, Bool, true, false, cond, List, [], ◌∷◌, ◌++◌, length, map, filter, Option, Some, None, refl, sym, ap, ◌∙◌, subst, inl, inr, arith}
use Rattle.std.specs.Prelude.{slice_get, option_map}
use Rattle.std.proofs.lemmas.Bool.{cases_eq, not-true}
use Rattle.std.proofs.lemmas.List.{length-map, map-append}
use Rattle.std.proofs.lemmas.List.Elements.{filter-append}
use Rattle.std.proofs.lemmas.Option.{slice_get-map}
use Rattle.input_types.specs.declared.message.Message.{Message}
use Rattle.dispatch_history.specs.Delivery.{published, is_finished}
use Rattle.dispatch_history.specs.Effect.{Effect, past_of}
use Rattle.dispatch_history.specs.Effects.{channels}
use Rattle.dispatch_history.specs.History.{clock, live, received, finished}
use Rattle.dispatch_history.specs.Ordered.{Candidate, soonest, finishes_of, all_finishes, candidates, end_of, extend, received_at, received_all, Rounds, start, next, begun}
use Rattle.dispatch_history.specs.Plan.{Plan, ChannelOf, Cooked, ScriptStep}
use Rattle.schedule.specs.declared.plan.Plan.{Plan as RunPlan}
use Rattle.schedule.specs.declared.plan.Step.{Step}
use Rattle.schedule.specs.Choosing.{NoneOverdue, NotBefore}
use Rattle.schedule.specs.Kinds.{is_opening}
use Rattle.schedule.specs.Next.{finish_at, up_to}
use Rattle.schedule.specs.Planned.{IsRun, IsStep, channel_of, plan_of, step_of}
use Rattle.schedule.specs.Run.{with_cooked}
use Rattle.schedule.specs.State.{Caught}
use Rattle.schedule.proofs.Advancing.{all_get, scripted_plain}
use Rattle.schedule.proofs.Finishes.{all_first}
use Rattle.schedule.proofs.Fitting.{Fits, OpensNone, back_late, both_late, finishes_late, fit_chosen, front_late, soonest_late}
use Rattle.schedule.proofs.Opening.{Fresh, fresh_begun, fresh_caught}
use Rattle.schedule.proofs.Soonest.{NoneSooner, soonest_up_to}
use Rattle.schedule.proofs.Timely.{Timely, AllTimely, BetweenRounds, kept_round}

-- candidates of the numbers 1 to n
one_more : (f : ℕ → Candidate) (p : ℕ → Bool) (n : ℕ) → map f (filter p (channels (suc n))) ≡ map f (filter p (channels n)) ++ map f (filter p (suc n ∷ []))
one_more f p n = ap (map f) (filter-append p (channels n) (suc n ∷ [])) ∙ map-append f (filter p (channels n)) (filter p (suc n ∷ []))

each_late : (t : ℕ) (f : ℕ → Candidate) (p : ℕ → Bool) (n : ℕ) → NoneSooner t (map f (filter p (channels n))) → (k : ℕ) → 1 ≤ k → k ≤ n → p k ≡ true
    → t ≤ (f k).moment
each_late t f p zero h k low high is = absurd (omega (arith, low, high))
each_late t f p (suc n) h k low high is =
    let both : NoneSooner t (map f (filter p (channels n)) ++ map f (filter p (suc n ∷ []))) = subst (NoneSooner t) (one_more f p n) h in
    elim (cases_eq k (suc n)) [
      | inl same ↦
          subst (λ j. t ≤ (f j).moment) (sym same)
          (last (p (suc n)) (ap p (sym same) ∙ is) (back_late t (map f (filter p (channels n))) (map f (filter p (suc n ∷ []))) both))
      | inr ne ↦
          each_late t f p n (front_late t (map f (filter p (channels n))) (map f (filter p (suc n ∷ []))) both) k low (omega (arith, high, ne)) is
    ]
  where
    last : (b : Bool) → b ≡ true → NoneSooner t (map f (cond b (suc n ∷ []) [])) → t ≤ (f (suc n)).moment
    last true e l = l.0
    last false e l = absurd (cc e)

all_late : (t : ℕ) (f : ℕ → Candidate) (p : ℕ → Bool) (n : ℕ) → ((k : ℕ) → 1 ≤ k → k ≤ n → p k ≡ true → t ≤ (f k).moment)
    → NoneSooner t (map f (filter p (channels n)))
all_late t f p zero h = tt
all_late t f p (suc n) h =
    subst (NoneSooner t) (sym (one_more f p n))
    (both_late t (map f (filter p (channels n))) (map f (filter p (suc n ∷ []))) (all_late t f p n (λ k low high. h k low (omega (arith, high)))) (last (p (suc n)) refl))
  where
    last : (b : Bool) → p (suc n) ≡ b → NoneSooner t (map f (cond b (suc n ∷ []) []))
    last true e = (h (suc n) (omega arith) (omega arith) e, tt)
    last false e = tt

module _ (t : ℕ) (es : List Effect) (h : Caught es) where
  -- the finish of a message
  abbrev at : ℕ → ChannelOf → ℕ → Candidate
  at c p k = finish_at c p.finish_after (k, received_at (past_of es) c k)

  abbrev is_left : ℕ → ℕ → Bool
  is_left c k = not (is_finished (past_of es) c k)

  timely_one : (c : ℕ) (p : ChannelOf) → NoneSooner t (finishes_of (past_of es) c p) → Timely t es c p
  timely_one c p late y f k low high undone =
      let all : NoneSooner t (map (at c p) (filter (is_left c) (channels (received (past_of es) c)))) = rw (y, f) at late in
      let had : k ≤ received (past_of es) c = omega (arith, high, h.all c y) in
      let m : t ≤ received_at (past_of es) c k + p.finish_after = each_late t (at c p) (is_left c) (received (past_of es) c) all k low had (ap not undone) in
      omega (arith, m, (h.behind c y).taken k low had)

  late_one : (c : ℕ) (p : ChannelOf) → Timely t es c p → NoneSooner t (finishes_of (past_of es) c p)
  late_one c p timely = by_both (live (past_of es) c) p.finishes refl refl
    where
      by_both : (v w : Bool) → live (past_of es) c ≡ v → p.finishes ≡ w
          → NoneSooner t (cond (v && w) (map (at c p) (filter (is_left c) (channels (received (past_of es) c)))) [])
      by_both true true y f =
          all_late t (at c p) (is_left c) (received (past_of es) c)
          (λ k low high is.
          omega (arith, timely y f k low (omega (arith, high, h.all c y)) (not-true (is_finished (past_of es) c k) is), (h.behind c y).taken k low high))
      by_both true false y f = tt
      by_both false w y f = tt

  all_timely : (c : ℕ) (ps : List ChannelOf) → NoneSooner t (all_finishes (past_of es) c ps) → AllTimely t es c ps
  all_timely c [] late = tt
  all_timely c (p ∷ ps) late = (
    timely_one c p (front_late t (finishes_of (past_of es) c p) (all_finishes (past_of es) (c + 1) ps) late),
    all_timely (c + 1) ps (back_late t (finishes_of (past_of es) c p) (all_finishes (past_of es) (c + 1) ps) late),
  )

  late_all : (c : ℕ) (ps : List ChannelOf) → AllTimely t es c ps → NoneSooner t (all_finishes (past_of es) c ps)
  late_all c [] timely = tt
  late_all c (p ∷ ps) timely =
      both_late t (finishes_of (past_of es) c p) (all_finishes (past_of es) (c + 1) ps) (late_one c p timely.0) (late_all (c + 1) ps timely.1)

-- before anyone was sent anything nothing is to be finished
fresh_timely : (ds : List ℕ) (t : ℕ) (es : List Effect) (n c : ℕ) (ps : List ChannelOf) → Fresh ds es n → AllTimely t es c ps
fresh_timely ds t es n c [] h = tt
fresh_timely ds t es n c (p ∷ ps) h = (λ y f k low high undone. absurd (omega (arith, low, high, none)), fresh_timely ds t es n (c + 1) ps h)
  where
    none : published es c ≡ 0
    none = ap (λ (ms : List Message). min (length ms) (length (finished (past_of es) c) + 64)) (h.no_stream c) ∙ omega arith

-- what is done next is the soonest of all
chosen_soonest : (t : ℕ) (o : Option Candidate) (c : Candidate) → up_to t o ≡ Some c → o ≡ Some c
chosen_soonest t None c e = e
chosen_soonest t (Some b) c e = by_test (nat_le b.moment t) e
  where
    by_test : (v : Bool) → cond v (Some b) None ≡ Some c → Some b ≡ Some c
    by_test true f = f
    by_test false f = absurd (cc f)

going : (plan : Plan) (es : List Effect) → length plan.channels ≤ 64 → OpensNone plan.steps → Rounds plan es → BetweenRounds plan.displays plan.channels es
going plan es few steps start =
    let f = fresh_begun plan few in
    record {
      lawful = f.lawful;
      caught = fresh_caught plan.displays (begun plan) (length plan.channels) f;
      timely = fresh_timely plan.displays (clock (past_of (begun plan))) (begun plan) (length plan.channels) 1 plan.channels f;
    }
going plan es few steps (next {es = before} {c = c} r e) =
    let k = going plan before few steps r in
    let is : soonest (candidates plan before) ≡ Some c =
    chosen_soonest (end_of plan) (soonest (candidates plan before)) c (sym (soonest_up_to (end_of plan) (candidates plan before)) ∙ e) in
    let fits : Fits c = fit_chosen plan before c steps is in
    let late : AllTimely c.moment before 1 plan.channels = all_timely c.moment before k.caught 1 plan.channels (finishes_late plan before c is) in
    subst (λ calls. BetweenRounds plan.displays plan.channels (received_all plan.displays (extend plan.displays before calls))) (sym fits.calls_are)
    (kept_round plan.displays plan.channels before fits.call fits.more fits.opens_not fits.calm
    (subst (λ t. AllTimely t before 1 plan.channels) (sym fits.moment_is) late) k)

pub none_overdue : (plan : Plan) (es : List Effect) → length plan.channels ≤ 64 → OpensNone plan.steps → Rounds plan es → NoneOverdue plan.channels es
none_overdue plan es few steps r =
    let k = going plan es few steps r in
    subst (NotBefore (clock (past_of es))) (all_first plan.displays es 1 plan.channels None k.lawful k.caught)
    (soonest_late (clock (past_of es)) None (all_finishes (past_of es) 1 plan.channels) tt
    (late_all (clock (past_of es)) es k.caught 1 plan.channels k.timely))

-- the steps of a run open nothing
steps_open_none : (r : RunPlan) → IsRun r → OpensNone (plan_of r).steps
steps_open_none r run i s at = by_step (slice_get r.steps.items i) refl (sym (slice_get-map step_of r.steps.items i) ∙ at)
  where
    by_step : (o : Option Step) → slice_get r.steps.items i ≡ o → option_map step_of o ≡ Some s → is_opening s.call ≡ false
    by_step None here e = absurd (cc e)
    by_step (Some x) here e =
        let same : step_of x ≡ s = cc in
        subst (λ (y : ScriptStep). is_opening y.call ≡ false) same (scripted_plain x.call (all_get IsStep r.steps.items i x run.steps here)).opens_not

-- so it is between two rounds of a run
pub run_overdue : (r : RunPlan) (cooked : List Cooked) (es : List Effect) → IsRun r → Rounds (with_cooked (plan_of r) cooked) es
    → NoneOverdue (plan_of r).channels es
run_overdue r cooked es run rounds =
    let few : length (map channel_of r.channels.items) ≤ 64 = omega (arith, length-map r.channels.items channel_of, run.few) in
    none_overdue (with_cooked (plan_of r) cooked) es few (steps_open_none r run) rounds
