-- Whether a run has more calls or more messages than the limit.
use Rattle.std.proofs.Common.{◌≡◌, ◌||◌, Bool, true, false, List, arith, ltb, ltb-true, ltb-false}
use Rattle.dispatch_history.specs.Effect.{Effect}
use Rattle.dispatch_history.specs.Plan.{Plan}
use Rattle.schedule.specs.Run.{IsWithin, IsTooLong, run_limit}
use Rattle.schedule.specs.declared.keeping.Lines.{Lines}
use Rattle.schedule.specs.State.{ScheduleState, ReadyWith, is_over}

neither : (a b : Bool) → (a || b) ≡ false → (a ≡ false) × (b ≡ false)
neither false false h = (h, h)
neither false true h = absurd (cc)
neither true b h = absurd (cc)

pub is_within : (how : Lines) (plan : Plan) (es : List Effect) (s : ScheduleState) → ReadyWith how plan es s → is_over s ≡ false → IsWithin es
unfolding run_limit
is_within how plan es s ready h =
    let p = neither (ltb 4000000 s.calls) (ltb 4000000 s.messages) h in
    (omega (arith, ltb-false 4000000 s.calls p.0, ready.has.calls_are), omega (arith, ltb-false 4000000 s.messages p.1, ready.messages_are))

one : (a b : Bool) (P : Type 0) → (a || b) ≡ true → (a ≡ true → P) → (b ≡ true → P) → P
one true b P h f g = f h
one false b P h f g = g h

pub is_overrun : (how : Lines) (plan : Plan) (es : List Effect) (s : ScheduleState) → ReadyWith how plan es s → is_over s ≡ true → IsTooLong es
unfolding run_limit
is_overrun how plan es s ready h = λ within.
    one (ltb 4000000 s.calls) (ltb 4000000 s.messages) ⊥ h
    (λ more. omega (arith, ltb-true 4000000 s.calls more, ready.has.calls_are, within.0))
    (λ more. omega (arith, ltb-true 4000000 s.messages more, ready.messages_are, within.1))
