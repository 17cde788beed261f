-- The run of a workload.
use Rattle.std.proofs.Common.{◌≡◌, ◌≤◌, ℕ, suc, List, ◌∷◌, length, ap, subst, refl, arith, []}
use Rattle.std.proofs.lemmas.List.{append-nil}
use Rattle.dispatch_calls.specs.declared.call.Call.{Call}
use Rattle.dispatch_calls.specs.declared.call.Call.TheVariants.{Notify}
use Rattle.dispatch_history.specs.Effect.{past_of}
use Rattle.dispatch_history.specs.Effects.{effects}
use Rattle.dispatch_history.specs.History.{History}
use Rattle.dispatch_history.specs.Ordered.{Rounds, is_notified, notified}
use Rattle.dispatch_history.specs.Plan.{Plan, Cooked}
use Rattle.schedule.specs.declared.keeping.Lines.TheVariants.{Counted}
use Rattle.schedule.specs.Run.{IsWithin, with_cooked, run_limit}
use Rattle.schedule.specs.State.{ScheduleState, RanWith, counted}

one_at_most : (call : Call) → is_notified call ≤ 1
one_at_most (Notify now args) = omega arith
one_at_most call = omega arith

notified_few : (h : History) → notified h ≤ length h
notified_few [] = omega arith
notified_few (e ∷ h) = omega (arith, one_at_most e.0, notified_few h)

effects_long : (displays : List ℕ) (h : History) → length (effects displays h) ≡ length h
effects_long displays [] = refl
effects_long displays (e ∷ h) = ap suc (effects_long displays h)

-- the rounds of the args that came so far
pub rounds_so_far : (plan : Plan) (given : List Cooked) (s : ScheduleState) (r : RanWith Counted plan given s) → Rounds (with_cooked plan given) r.es
rounds_so_far plan given s r = subst (λ (cs : List Cooked). Rounds (with_cooked plan cs) r.es) (append-nil given) (r.rounds [])

-- a run within its limits was given no more args than it may have calls
pub counted_exactly : (plan : Plan) (given : List Cooked) (s : ScheduleState) (r : RanWith Counted plan given s) → IsWithin r.es → counted (length given) ≡ length given
unfolding run_limit
counted_exactly plan given s r within =
    let lawful = r.ready.has.stands.lawful in
    let long = effects_long s.dispatcher.displays (past_of r.es) in
    let same : length (effects s.dispatcher.displays (past_of r.es)) ≡ length r.es = ap length lawful.whole in
    omega (arith, notified_few (past_of r.es), long, same, within.0, r.taken within)
