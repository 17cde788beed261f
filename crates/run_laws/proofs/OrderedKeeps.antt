-- The args of the ordered run are accepted.
use Rattle.std.proofs.Common.{◌≡◌, ◌⊎◌, ℕ, zero, suc, ◌+◌, ◌-◌, ◌==◌, ◌&&◌, not, nat_lt, nat_le, Bool, true, false, cond, List, [], ◌∷◌, ◌++◌, length, map, filter, flat_map, replicate, Option, Some, None, refl, sym, ap, ◌∙◌, subst, inl, inr, append_assoc}
use Rattle.std.specs.Prelude.{fold, slice_get}
use Rattle.dispatch_history.specs.KeySent.{repeat_due}
use Rattle.dispatch_calls.specs.declared.call.Call.{Call}
use Rattle.dispatch_calls.specs.declared.call.Call.TheVariants.{Notify, Pump, Receive, Finish}
use Rattle.dispatch_history.specs.Effect.{Effect, past_of}
use Rattle.dispatch_history.specs.Effects.{channels}
use Rattle.dispatch_history.specs.History.{History, opened, live, received}
use Rattle.dispatch_history.specs.Delivery.{published, is_finished}
use Rattle.dispatch_history.specs.Due.{Due, first_due}
use Rattle.dispatch_history.specs.Legal.{answered}
use Rattle.dispatch_history.specs.Ordered.{Candidate, notified, sooner_of, finishes_of, all_finishes, due_tick, due_repeat, next_step, next_cooked, candidates, end_of, extend, receives, received_all, received_at, round, scripted, Rounds, start, next}
use Rattle.dispatch_history.specs.Given.{opens}
use Rattle.dispatch_history.specs.Plan.{Plan, ChannelOf, Cooked, ScriptStep}
use Rattle.dispatch_history.specs.Queue.{inbound}
use Rattle.run_laws.specs.Laws.{OrderedTakes}
use Rattle.run_laws.specs.Fitting.{KeepRule, HandNone}
use Rattle.run_laws.proofs.Keeping.{AllQuiet, Keeps, next_call, nothing_yet, quiet_call, quiet_calls, quiet_opens}

-- a candidate whose calls hand in nothing, or the one that hands in the next of these args
abbrev IsFine : List Cooked → Candidate → Type 0
IsFine left c = AllQuiet c.calls ⊎ ((a : Cooked) × (rest : List Cooked) × (left ≡ a ∷ rest) × (c.calls ≡ Notify a.moment a.args ∷ Pump a.moment ∷ []))

abbrev AllFine : List Cooked → List Candidate → Type 0
AllFine left [] = Unit {0}
AllFine left (c ∷ cs) = IsFine left c × AllFine left cs

fine_append : (left : List Cooked) (cs ds : List Candidate) → AllFine left cs → AllFine left ds → AllFine left (cs ++ ds)
fine_append left [] ds h k = k
fine_append left (c ∷ cs) ds h k = (h.0, fine_append left cs ds h.1 k)

fine_filter : (left : List Cooked) (p : Candidate → Bool) (cs : List Candidate) → AllFine left cs → AllFine left (filter p cs)
fine_filter left p [] h = tt
fine_filter left p (c ∷ cs) h =
    elim (p c) as (λ b. AllFine left (cond b (c ∷ filter p cs) (filter p cs))) [
      | true ↦ (h.0, fine_filter left p cs h.1)
      | false ↦ fine_filter left p cs h.1
    ]

fine_sooner : (left : List Cooked) (o : Option Candidate) (cs : List Candidate) (c : Candidate) → ((b : Candidate) → o ≡ Some b → IsFine left b)
    → AllFine left cs → fold sooner_of o cs ≡ Some c → IsFine left c
fine_sooner left o [] c first h e = first c e
fine_sooner left None (d ∷ cs) c first h e =
    fine_sooner left (Some d) cs c (λ b f. subst (IsFine left) (let same : d ≡ b = cc in same) h.0) h.1 e
fine_sooner left (Some best) (d ∷ cs) c first h e =
    fine_sooner left (sooner_of (Some best) d) cs c
    (λ b f. by_test (nat_lt d.moment best.moment) b f)
    h.1 e
  where
    by_test : (v : Bool) (b : Candidate) → Some (cond v d best) ≡ Some b → IsFine left b
    by_test true b f = subst (IsFine left) (let same : d ≡ b = cc in same) h.0
    by_test false b f = first b f

fine_map : (left : List Cooked) (f : ℕ → Candidate) (ks : List ℕ) → ((k : ℕ) → AllQuiet (f k).calls) → AllFine left (map f ks)
fine_map left f [] h = tt
fine_map left f (k ∷ ks) h = (inl (h k), fine_map left f ks h)

fine_finishes : (left : List Cooked) (h : History) (c : ℕ) (p : ChannelOf) → AllFine left (finishes_of h c p)
fine_finishes left h c p =
    elim (live h c && p.finishes) as (λ b. AllFine left (cond b (map (λ k. record { moment = received_at h c k + p.finish_after; calls = Finish (received_at h c k + p.finish_after) c k ∷ [] }) (filter (λ k. not (is_finished h c k)) (channels (received h c)))) [])) [
      | true ↦ fine_map left (λ k. record { moment = received_at h c k + p.finish_after; calls = Finish (received_at h c k + p.finish_after) c k ∷ [] }) (filter (λ k. not (is_finished h c k)) (channels (received h c))) (λ k. (refl, tt))
      | false ↦ tt
    ]

fine_all_finishes : (left : List Cooked) (h : History) (c : ℕ) (ps : List ChannelOf) → AllFine left (all_finishes h c ps)
fine_all_finishes left h c [] = tt
fine_all_finishes left h c (p ∷ ps) = fine_append left (finishes_of h c p) (all_finishes h (c + 1) ps) (fine_finishes left h c p) (fine_all_finishes left h (c + 1) ps)

fine_tick : (left : List Cooked) (o : Option Due) → AllFine left (due_tick o)
fine_tick left None = tt
fine_tick left (Some d) = (inl (refl, tt), tt)

fine_repeat : (left : List Cooked) (b : Bool) (o : Option ℕ) → AllFine left (due_repeat b o)
fine_repeat left true (Some t) = (inl (refl, tt), tt)
fine_repeat left true None = tt
fine_repeat left false o = tt

fine_step : (left : List Cooked) (ss : List ScriptStep) (k : ℕ) → HandNone ss → AllFine left (next_step (slice_get ss k))
fine_step left [] zero h = tt
fine_step left [] (suc k) h = tt
fine_step left (s ∷ ss) zero h = (inl (h.0, tt), tt)
fine_step left (s ∷ ss) (suc k) h = fine_step left ss k h.1

fine_args : (front left : List Cooked) → AllFine left (next_cooked (slice_get (front ++ left) (length front)))
fine_args [] [] = tt
fine_args [] (a ∷ left) = (inr (a, left, refl, refl), tt)
fine_args (b ∷ front) left = fine_args front left

fine_candidates : (plan : Plan) (es : List Effect) (front left : List Cooked) → HandNone plan.steps → plan.cooked ≡ front ++ left
    → notified (past_of es) ≡ length front → AllFine left (candidates plan es)
fine_candidates plan es front left steps whole count =
    fine_append left _ (next_cooked (slice_get plan.cooked (notified (past_of es))))
    (fine_append left _ (next_step (slice_get plan.steps (scripted (past_of es))))
    (fine_append left _ (due_repeat (length (inbound (past_of es)) == 0) (repeat_due es))
    (fine_append left (all_finishes (past_of es) 1 plan.channels) (due_tick (first_due es)) (fine_all_finishes left (past_of es) 1 plan.channels) (fine_tick left (first_due es)))
    (fine_repeat left (length (inbound (past_of es)) == 0) (repeat_due es)))
    (fine_step left plan.steps (scripted (past_of es)) steps))
    (subst (λ cs. AllFine left (next_cooked (slice_get cs (notified (past_of es))))) (sym whole)
    (subst (λ n. AllFine left (next_cooked (slice_get (front ++ left) n))) (sym count) (fine_args front left)))

quiet_append : (cs ds : List Call) → AllQuiet cs → AllQuiet ds → AllQuiet (cs ++ ds)
quiet_append [] ds h k = k
quiet_append (c ∷ cs) ds h k = (h.0, quiet_append cs ds h.1 k)

quiet_replicate : (n c : ℕ) → AllQuiet (replicate n (Receive c))
quiet_replicate zero c = tt
quiet_replicate (suc n) c = (refl, quiet_replicate n c)

quiet_receives : (es : List Effect) (ns : List ℕ)
    → AllQuiet (flat_map (λ c. cond (live (past_of es) c) (replicate (published es c - received (past_of es) c) (Receive c)) []) ns)
quiet_receives es [] = tt
quiet_receives es (c ∷ ns) =
    quiet_append (cond (live (past_of es) c) (replicate (published es c - received (past_of es) c) (Receive c)) []) _
    (elim (live (past_of es) c) as (λ b. AllQuiet (cond b (replicate (published es c - received (past_of es) c) (Receive c)) [])) [
      | true ↦ quiet_replicate (published es c - received (past_of es) c) c
      | false ↦ tt
    ])
    (quiet_receives es ns)

quiet_received : (ds : List ℕ) (es : List Effect) (front left : List Cooked) → Keeps front left (past_of es) → Keeps front left (past_of (received_all ds es))
quiet_received ds es front left k = quiet_calls ds es (receives es) front left (quiet_receives es (channels (opened (past_of es)))) k

-- So far no args of a plan were refused.
record Going (plan : Plan) (es : List Effect) : Type 0 where
  front : List Cooked
  left : List Cooked
  whole : plan.cooked ≡ front ++ left
  keeps : Keeps front left (past_of es)

going_round : (plan : Plan) (es : List Effect) (c : Candidate) → KeepRule plan.cooked → (g : Going plan es) → IsFine g.left c → Going plan (round plan es c)
going_round plan es c rule g (inl quiet) =
    record {
      front = g.front;
      left = g.left;
      whole = g.whole;
      keeps = quiet_received plan.displays (extend plan.displays es c.calls) g.front g.left (quiet_calls plan.displays es c.calls g.front g.left quiet g.keeps);
    }
going_round plan es c rule g (inr (a, rest, is, calls)) =
    let kept : Keeps g.front (a ∷ rest) (past_of es) = subst (λ cs. Keeps g.front cs (past_of es)) is g.keeps in
    let whole : plan.cooked ≡ g.front ++ a ∷ rest = g.whole ∙ ap (λ cs. g.front ++ cs) is in
    let one = answered plan.displays (Notify a.moment a.args) es in
    let after : Keeps (g.front ++ a ∷ []) rest (past_of (answered plan.displays (Notify a.moment a.args) es)) =
    next_call plan.displays es a g.front rest (subst KeepRule whole rule) kept in
    record {
      front = g.front ++ a ∷ [];
      left = rest;
      whole = whole ∙ sym (append_assoc g.front (a ∷ []) rest);
      keeps =
          subst (λ ks. Keeps (g.front ++ a ∷ []) rest (past_of (received_all plan.displays (extend plan.displays es ks)))) (sym calls)
          (quiet_received plan.displays (answered plan.displays (Pump a.moment) (answered plan.displays (Notify a.moment a.args) es)) (g.front ++ a ∷ []) rest
          (quiet_call plan.displays (answered plan.displays (Notify a.moment a.args) es) (Pump a.moment) (g.front ++ a ∷ []) rest refl after));
    }

going : (plan : Plan) (es : List Effect) → KeepRule plan.cooked → HandNone plan.steps → Rounds plan es → Going plan es
going plan es rule steps start =
    record {
      front = [];
      left = plan.cooked;
      whole = refl;
      keeps = quiet_calls plan.displays [] (opens plan.channels) [] plan.cooked (quiet_opens plan.channels) (nothing_yet plan.cooked);
    }
going plan es rule steps (next {es = before} {c = c} r e) =
    let g = going plan before rule steps r in
    going_round plan before c rule g
    (fine_sooner g.left None (filter (λ d. nat_le d.moment (end_of plan)) (candidates plan before)) c (λ b f. absurd (cc f))
    (fine_filter g.left (λ d. nat_le d.moment (end_of plan)) (candidates plan before) (fine_candidates plan before g.front g.left steps g.whole g.keeps.count)) e)

pub ordered_takes : OrderedTakes
ordered_takes plan es rule steps r = (going plan es rule steps r).keeps.none
