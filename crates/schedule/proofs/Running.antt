-- The run, args by args.
use Rattle.std.proofs.Common.{◌≡◌, ℕ, ◌≤◌, nat_lt, ◌||◌, max, true, false, List, [], ◌∷◌, ◌++◌, length, map, refl, sym, ap, ap₂, ◌∙◌, subst, arith, append-nil, append_assoc, Some, None}
use Rattle.std.specs.Prelude.{fold}
use Rattle.std.proofs.lemmas.List.Sums.{fold-append}
use Rattle.std.proofs.lemmas.Bool.{true≢false}
use Rattle.std.proofs.lemmas.Bool.Decides.{nat_tests}
use Rattle.dispatch_history.specs.History.{moment_of}
use Rattle.dispatch_history.specs.Effect.{Effect, past_of}
use Rattle.dispatch_history.specs.Plan.{Plan, Cooked, ScriptStep}
use Rattle.dispatch_history.specs.Ordered.{soonest, Rounds, round, notified, end_of}
use Rattle.schedule.specs.declared.keeping.Lines.{Lines}
use Rattle.schedule.specs.declared.plan.Step.{Step}
use Rattle.schedule.specs.Choosing.{Advances}
use Rattle.schedule.specs.Ends.{last_step}
use Rattle.schedule.specs.Handing.{handing}
use Rattle.schedule.specs.Next.{fore, up_to}
use Rattle.schedule.specs.Planned.{step_of}
use Rattle.schedule.specs.Run.{with_cooked, run_limit, IsWithin, IsTooLong}
use Rattle.schedule.specs.State.{ScheduleState, ReadyWith, RanWith, CompletedWith, is_over}
use Rattle.schedule.proofs.Rounds.{Going, going_before, going_on, Ending, ending_next, ended}
use Rattle.schedule.proofs.Going.{handing_notified}
use Rattle.schedule.proofs.Stepping.{lawful_of}

limit_is : run_limit ≡ 4000000
unfolding run_limit
limit_is = refl

-- a run that is not over is within the limits, and one that is, is too long
pub not_over : (how : Lines) (plan : Plan) (es : List Effect) (s : ScheduleState) → ReadyWith how plan es s → is_over s ≡ false → IsWithin es
not_over how plan es s r e =
    let calls : s.calls ≤ 4000000 = grind (arith, nat_tests) in
    let messages : s.messages ≤ 4000000 = grind (arith, nat_tests) in
    (omega (arith, calls, r.has.calls_are, limit_is), omega (arith, messages, r.messages_are, limit_is))

pub over : (how : Lines) (plan : Plan) (es : List Effect) (s : ScheduleState) → ReadyWith how plan es s → is_over s ≡ true → IsTooLong es
over how plan es s r e w =
    let calls : nat_lt 4000000 s.calls ≡ false = let le : s.calls ≤ 4000000 = omega (arith, w.0, r.has.calls_are, limit_is) in grind (arith, nat_tests) in
    let messages : nat_lt 4000000 s.messages ≡ false = let le : s.messages ≤ 4000000 = omega (arith, w.1, r.messages_are, limit_is) in grind (arith, nat_tests) in
    true≢false (sym e ∙ ap₂ (λ u v. u || v) calls messages)

pub ready_latest : (how : Lines) (plan : Plan) (es : List Effect) (s : ScheduleState) (t : ℕ) → ReadyWith how plan es s → ReadyWith how plan es (record s { latest = t })
ready_latest how plan es s t r =
    record {
      has =
          record {
            stands = r.has.stands;
            displays_are = r.has.displays_are;
            noted = r.has.noted;
            drained = r.has.drained;
            as_many = r.has.as_many;
            causes_are = r.has.causes_are;
            next_is = r.has.next_is;
            calls_are = r.has.calls_are;
            released_are = r.has.released_are;
          };
      caught = r.caught;
      opened_is = r.opened_is;
      all_released = r.all_released;
      messages_are = r.messages_are;
    }

-- these args are next
pub record Coming (how : Lines) (plan : Plan) (given : List Cooked) (a : Cooked) (s : ScheduleState) : Type 0 where
  pub es : List Effect
  pub ready : ReadyWith how plan es s
  pub rounds : (later : List Cooked) → Rounds (with_cooked plan ((given ++ a ∷ []) ++ later)) es
  pub taken : IsWithin es → notified (past_of es) ≡ length given
  pub latest_is : s.latest ≡ fold (λ t (b : Cooked). max t b.moment) 0 (given ++ a ∷ [])

pub coming : (how : Lines) (plan : Plan) (given : List Cooked) (a : Cooked) (s t : ScheduleState) → RanWith how plan given s → t ≡ record s { latest = max s.latest a.moment } → Coming how plan given a t
coming how plan given a s t r e =
    subst (Coming how plan given a) (sym e)
    (record {
      es = r.es;
      ready = ready_latest how plan r.es s (max s.latest a.moment) r.ready;
      rounds = λ later. subst (λ cs. Rounds (with_cooked plan cs) r.es) (sym (append_assoc given (a ∷ []) later)) (r.rounds (a ∷ later));
      taken = r.taken;
      latest_is = ap (λ n. max n a.moment) r.latest_is ∙ sym (fold-append (λ t (b : Cooked). max t b.moment) 0 given (a ∷ []));
    })

-- a round before them
pub coming_next : (how : Lines) (plan : Plan) (given : List Cooked) (a : Cooked) (s t : ScheduleState) (h : Coming how plan given a s) → is_over s ≡ false
    → Advances how plan a.moment h.es s t true → t.latest ≡ s.latest → Coming how plan given a t
coming_next how plan given a s t h e d latest =
    let going : Going plan (given ++ a ∷ []) (length given) h.es = record { rounds = h.rounds; taken = h.taken (not_over how plan h.es s h.ready e) } in
    let on = going_before plan given a h.es d.0 going d.1 d.2 in
    record {
      es = round plan h.es d.0;
      ready = d.3;
      rounds = on.rounds;
      taken = λ w. on.taken;
      latest_is = latest ∙ h.latest_is;
    }

-- they are handed in
pub coming_done : (how : Lines) (plan : Plan) (given : List Cooked) (a : Cooked) (s t u : ScheduleState) (h : Coming how plan given a s) → is_over s ≡ false
    → Advances how plan a.moment h.es s t false → ReadyWith how plan (round plan h.es (handing a)) u → u.latest ≡ s.latest → RanWith how plan (given ++ a ∷ []) u
coming_done how plan given a s t u h e d ready latest =
    let going : Going plan (given ++ a ∷ []) (length given) h.es = record { rounds = h.rounds; taken = h.taken (not_over how plan h.es s h.ready e) } in
    let on = going_on plan given a h.es going d.0 (handing_notified plan h.es a (lawful_of how plan h.es s h.ready.has) h.ready.caught) in
    record {
      es = round plan h.es (handing a);
      ready = ready;
      rounds = on.rounds;
      taken = λ w. on.taken;
      latest_is = latest ∙ h.latest_is;
    }

-- a run that is over takes them without more
pub coming_over : (how : Lines) (plan : Plan) (given : List Cooked) (a : Cooked) (s : ScheduleState) → Coming how plan given a s → is_over s ≡ true → RanWith how plan (given ++ a ∷ []) s
coming_over how plan given a s h e =
    record { es = h.es; ready = h.ready; rounds = h.rounds; taken = λ w. absurd (over how plan h.es s h.ready e w); latest_is = h.latest_is }

-- all args came
pub record Closing (how : Lines) (plan : Plan) (given : List Cooked) (s : ScheduleState) : Type 0 where
  pub es : List Effect
  pub ready : ReadyWith how plan es s
  pub rounds : Rounds (with_cooked plan given) es
  pub taken : IsWithin es → notified (past_of es) ≡ length given

pub closing : (how : Lines) (plan : Plan) (given : List Cooked) (s : ScheduleState) → RanWith how plan given s → Closing how plan given s
closing how plan given s r =
    record { es = r.es; ready = r.ready; rounds = subst (λ cs. Rounds (with_cooked plan cs) r.es) (append-nil given) (r.rounds []); taken = r.taken }

pub closing_next : (how : Lines) (plan : Plan) (given : List Cooked) (until : ℕ) (s t : ScheduleState) (h : Closing how plan given s) → is_over s ≡ false
    → until ≡ end_of (with_cooked plan given) → Advances how plan until h.es s t true → Closing how plan given t
closing_next how plan given until s t h e at d =
    let end : Ending plan given h.es = record { rounds = h.rounds; taken = h.taken (not_over how plan h.es s h.ready e) } in
    let on = ending_next plan given h.es d.0 end (subst (λ n. up_to n (soonest (fore plan h.es)) ≡ Some d.0) at d.1) d.2 in
    record { es = round plan h.es d.0; ready = d.3; rounds = on.rounds; taken = λ w. on.taken }

pub closing_done : (how : Lines) (plan : Plan) (given : List Cooked) (until : ℕ) (s t : ScheduleState) (h : Closing how plan given s) → is_over s ≡ false
    → until ≡ end_of (with_cooked plan given) → Advances how plan until h.es s t false → CompletedWith how plan given t
closing_done how plan given until s t h e at d =
    let end : Ending plan given h.es = record { rounds = h.rounds; taken = h.taken (not_over how plan h.es s h.ready e) } in
    record {
      es = h.es;
      ready = subst (ReadyWith how plan h.es) (sym d.1) h.ready;
      rounds = h.rounds;
      ordered = λ w. ended plan given h.es end (subst (λ n. up_to n (soonest (fore plan h.es)) ≡ None) at d.0);
    }

pub closing_over : (how : Lines) (plan : Plan) (given : List Cooked) (s : ScheduleState) → Closing how plan given s → is_over s ≡ true → CompletedWith how plan given s
closing_over how plan given s h e = record { es = h.es; ready = h.ready; rounds = h.rounds; ordered = λ w. absurd (over how plan h.es s h.ready e w) }

-- the moment of the last step, and of the end
last_is : (t : ℕ) (ss : List Step) → last_step t ss ≡ fold (λ u (s : ScriptStep). max u (moment_of s.call)) t (map step_of ss)
last_is t [] = refl
last_is t (s ∷ ss) = last_is (max t (moment_of s.call)) ss

pub end_is : (plan : Plan) (given : List Cooked) (steps : List Step) (latest : ℕ) → plan.steps ≡ map step_of steps
    → latest ≡ fold (λ t (a : Cooked). max t a.moment) 0 given → max plan.until (max (last_step 0 steps) latest) ≡ end_of (with_cooked plan given)
end_is plan given steps latest are e =
    ap₂ (λ n k. max plan.until (max n k)) (last_is 0 steps ∙ ap (λ ss. fold (λ u (s : ScriptStep). max u (moment_of s.call)) 0 ss) (sym are)) e
