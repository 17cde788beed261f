-- What is chosen is a call at its moment that opens nothing, and perhaps more of such calls; and nothing is due before it.
use Rattle.std.proofs.Common.{◌≡◌, ℕ, ◌+◌, ◌≤◌, ◌==◌, ◌&&◌, not, nat_lt, Bool, true, false, cond, List, [], ◌∷◌, ◌++◌, length, map, filter, Option, Some, None, refl, sym, ap, ◌∙◌, subst, arith}
use Rattle.std.specs.Prelude.{fold, slice_get}
use Rattle.std.proofs.lemmas.Bool.Decides.{nat_tests}
use Rattle.dispatch_calls.specs.declared.call.Call.{Call}
use Rattle.dispatch_calls.specs.declared.call.Call.TheVariants.{Notify, Pump, Tick, Finish}
use Rattle.dispatch_history.specs.Effect.{Effect, past_of}
use Rattle.dispatch_history.specs.Effects.{channels}
use Rattle.dispatch_history.specs.History.{History, live, received, moment_of}
use Rattle.dispatch_history.specs.Delivery.{is_finished}
use Rattle.dispatch_history.specs.Due.{Due, first_due}
use Rattle.dispatch_history.specs.KeySent.{repeat_due}
use Rattle.dispatch_history.specs.Ordered.{Candidate, notified, sooner_of, soonest, finishes_of, all_finishes, due_tick, due_repeat, next_step, next_cooked, candidates, received_at, scripted}
use Rattle.dispatch_history.specs.Plan.{Plan, ChannelOf, Cooked, ScriptStep}
use Rattle.dispatch_history.specs.Queue.{inbound}
use Rattle.schedule.specs.Choosing.{NotBefore}
use Rattle.schedule.specs.Kinds.{is_opening}
use Rattle.schedule.proofs.Soonest.{NoneSooner}
use Rattle.schedule.proofs.Timely.{AllCalm}

-- a candidate's calls: one at its moment, and more no later, none of which opens a channel
pub record Fits (c : Candidate) : Type 0 where
  pub call : Call
  pub more : List Call
  pub calls_are : c.calls ≡ call ∷ more
  pub moment_is : moment_of call ≡ c.moment
  pub opens_not : is_opening call ≡ false
  pub calm : AllCalm (moment_of call) more

abbrev AllFit : List Candidate → Type 0
AllFit [] = Unit {0}
AllFit (c ∷ cs) = Fits c × AllFit cs

fit_append : (cs ds : List Candidate) → AllFit cs → AllFit ds → AllFit (cs ++ ds)
fit_append [] ds h k = k
fit_append (c ∷ cs) ds h k = (h.0, fit_append cs ds h.1 k)

same_some : (c d : Candidate) → Some c ≡ Some d → c ≡ d
same_some c d e = cc

fit_sooner : (o : Option Candidate) (cs : List Candidate) (c : Candidate) → ((b : Candidate) → o ≡ Some b → Fits b) → AllFit cs
    → fold sooner_of o cs ≡ Some c → Fits c
fit_sooner o [] c first h e = first c e
fit_sooner None (d ∷ cs) c first h e = fit_sooner (Some d) cs c (λ b f. subst Fits (same_some d b f) h.0) h.1 e
fit_sooner (Some best) (d ∷ cs) c first h e =
    fit_sooner (sooner_of (Some best) d) cs c (λ b f. by_test (nat_lt d.moment best.moment) b f) h.1 e
  where
    by_test : (v : Bool) (b : Candidate) → Some (cond v d best) ≡ Some b → Fits b
    by_test true b f = subst Fits (same_some d b f) h.0
    by_test false b f = first b f

one_call : (t : ℕ) (call : Call) → moment_of call ≡ t → is_opening call ≡ false → Fits (record { moment = t; calls = call ∷ [] })
one_call t call at never = record { call = call; more = []; calls_are = refl; moment_is = at; opens_not = never; calm = tt }

fit_map : (f : ℕ → Candidate) (ks : List ℕ) → ((k : ℕ) → Fits (f k)) → AllFit (map f ks)
fit_map f [] h = tt
fit_map f (k ∷ ks) h = (h k, fit_map f ks h)

fit_finishes : (h : History) (c : ℕ) (p : ChannelOf) → AllFit (finishes_of h c p)
fit_finishes h c p = by_live (live h c && p.finishes)
  where
    at : ℕ → Candidate
    at k = record { moment = received_at h c k + p.finish_after; calls = Finish (received_at h c k + p.finish_after) c k ∷ [] }

    by_live : (b : Bool) → AllFit (cond b (map at (filter (λ k. not (is_finished h c k)) (channels (received h c)))) [])
    by_live true = fit_map at (filter (λ k. not (is_finished h c k)) (channels (received h c))) (λ k. one_call (received_at h c k + p.finish_after) (Finish (received_at h c k + p.finish_after) c k) refl refl)
    by_live false = tt

fit_all : (h : History) (c : ℕ) (ps : List ChannelOf) → AllFit (all_finishes h c ps)
fit_all h c [] = tt
fit_all h c (p ∷ ps) = fit_append (finishes_of h c p) (all_finishes h (c + 1) ps) (fit_finishes h c p) (fit_all h (c + 1) ps)

fit_tick : (o : Option Due) → AllFit (due_tick o)
fit_tick None = tt
fit_tick (Some d) = (one_call d.moment (Tick d.moment) refl refl, tt)

fit_repeat : (b : Bool) (o : Option ℕ) → AllFit (due_repeat b o)
fit_repeat true (Some t) = (one_call t (Pump t) refl refl, tt)
fit_repeat true None = tt
fit_repeat false o = tt

-- no step of a plan opens a channel
abbrev pub OpensNone : List ScriptStep → Type 0
OpensNone ss = (i : ℕ) (s : ScriptStep) → slice_get ss i ≡ Some s → is_opening s.call ≡ false

fit_step : (o : Option ScriptStep) → ((s : ScriptStep) → o ≡ Some s → is_opening s.call ≡ false) → AllFit (next_step o)
fit_step None h = tt
fit_step (Some s) h = (one_call (moment_of s.call) s.call refl (h s refl), tt)

fit_args : (o : Option Cooked) → AllFit (next_cooked o)
fit_args None = tt
fit_args (Some a) = (
  record {
    call = Notify a.moment a.args;
    more = Pump a.moment ∷ [];
    calls_are = refl;
    moment_is = refl;
    opens_not = refl;
    calm = (refl, (let le : a.moment ≤ a.moment = omega arith in le), tt);
  },
  tt,
)

-- what is done next is so
pub fit_chosen : (plan : Plan) (es : List Effect) (c : Candidate) → OpensNone plan.steps → soonest (candidates plan es) ≡ Some c → Fits c
fit_chosen plan es c steps e =
    fit_sooner None (candidates plan es) c (λ b f. absurd (cc f))
    (fit_append _ (next_cooked (slice_get plan.cooked (notified (past_of es))))
    (fit_append _ (next_step (slice_get plan.steps (scripted (past_of es))))
    (fit_append _ (due_repeat (length (inbound (past_of es)) == 0) (repeat_due es))
    (fit_append (all_finishes (past_of es) 1 plan.channels) (due_tick (first_due es)) (fit_all (past_of es) 1 plan.channels) (fit_tick (first_due es)))
    (fit_repeat (length (inbound (past_of es)) == 0) (repeat_due es)))
    (fit_step (slice_get plan.steps (scripted (past_of es))) (λ s at. steps (scripted (past_of es)) s at)))
    (fit_args (slice_get plan.cooked (notified (past_of es)))))
    e

-- the soonest of some candidates is due no later than any of them, and than what was the soonest before
least : (o : Option Candidate) (cs : List Candidate) (c : Candidate) → fold sooner_of o cs ≡ Some c
    → ((b : Candidate) → o ≡ Some b → c.moment ≤ b.moment) × NoneSooner c.moment cs
least o [] c e = (λ b f. (let same : c.moment ≡ b.moment = ap (λ (x : Candidate). x.moment) (same_some c b (sym e ∙ f)) in omega (arith, same)), tt)
least None (d ∷ cs) c e = let r = least (Some d) cs c e in (λ b f. absurd (cc f), (r.0 d refl, r.1))
least (Some best) (d ∷ cs) c e =
    let r = least (sooner_of (Some best) d) cs c e in
    let low = by_test (nat_lt d.moment best.moment) refl (λ b f. r.0 b f) in
    (λ b f. (let same : best.moment ≡ b.moment = ap (λ (x : Candidate). x.moment) (same_some best b f) in omega (arith, same, low.0)), (low.1, r.1))
  where
    by_test : (v : Bool) → nat_lt d.moment best.moment ≡ v → ((b : Candidate) → Some (cond v d best) ≡ Some b → c.moment ≤ b.moment)
        → (c.moment ≤ best.moment) × (c.moment ≤ d.moment)
    by_test true f h = let le : c.moment ≤ d.moment = h d refl in let lt : d.moment ≤ best.moment = grind (arith, nat_tests) in (omega (arith, le, lt), le)
    by_test false f h = let le : c.moment ≤ best.moment = h best refl in let ge : best.moment ≤ d.moment = grind (arith, nat_tests) in (le, omega (arith, le, ge))

pub front_late : (t : ℕ) (cs ds : List Candidate) → NoneSooner t (cs ++ ds) → NoneSooner t cs
front_late t [] ds h = tt
front_late t (c ∷ cs) ds h = (h.0, front_late t cs ds h.1)

pub back_late : (t : ℕ) (cs ds : List Candidate) → NoneSooner t (cs ++ ds) → NoneSooner t ds
back_late t [] ds h = h
back_late t (c ∷ cs) ds h = back_late t cs ds h.1

pub both_late : (t : ℕ) (cs ds : List Candidate) → NoneSooner t cs → NoneSooner t ds → NoneSooner t (cs ++ ds)
both_late t [] ds h k = k
both_late t (c ∷ cs) ds h k = (h.0, both_late t cs ds h.1 k)

-- so no finish is due before what is done next
pub finishes_late : (plan : Plan) (es : List Effect) (c : Candidate) → soonest (candidates plan es) ≡ Some c
    → NoneSooner c.moment (all_finishes (past_of es) 1 plan.channels)
finishes_late plan es c e =
    front_late c.moment (all_finishes (past_of es) 1 plan.channels) (due_tick (first_due es))
    (front_late c.moment _ (due_repeat (length (inbound (past_of es)) == 0) (repeat_due es))
    (front_late c.moment _ (next_step (slice_get plan.steps (scripted (past_of es))))
    (front_late c.moment _ (next_cooked (slice_get plan.cooked (notified (past_of es)))) (least None (candidates plan es) c e).1)))

-- the soonest of what is not due before a moment is not due before it
pub soonest_late : (t : ℕ) (o : Option Candidate) (cs : List Candidate) → NotBefore t o → NoneSooner t cs → NotBefore t (fold sooner_of o cs)
soonest_late t o [] h k = h
soonest_late t None (c ∷ cs) h k = soonest_late t (Some c) cs k.0 k.1
soonest_late t (Some b) (c ∷ cs) h k =
    soonest_late t (sooner_of (Some b) c) cs
    (elim (nat_lt c.moment b.moment) as (λ v. t ≤ (cond v c b).moment) [
      | true ↦ k.0
      | false ↦ h
    ]) k.1
