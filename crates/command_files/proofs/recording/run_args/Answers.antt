use Rattle.std.proofs.Common.{◌≡◌, ◌+◌, suc, List, [], ◌∷◌, ◌++◌, take, take_all, subst, sym, ap, ◌∙◌, arith}
use Rattle.std.proofs.Math.Seq.{take-suc}
use Rattle.input_types.specs.declared.message.Args.{Args}
use Rattle.dispatch_history.specs.Plan.{Cooked}
use Rattle.schedule.specs.Planned.{plan_of}
use Rattle.schedule.specs.State.{RanWith}
use Rattle.command_files.proofs.NextGiven.{all_at, all_next}
use Rattle.command_files.proofs.recording.run_args.Goals as goal

pub loop-a-preserved : goal.loop-a-preserved
loop-a-preserved c how before ran =
    let xs : List Args = c.args.args.now in
    let i = c.loop-a.a-index in
    let a : Args = c.a-item.result in
    let next : i + 1 ≡ suc i = omega arith in
    let longer : take i xs ++ a ∷ [] ≡ take (i + 1) xs =
    sym (ap (λ n. take n xs) next ∙ take-suc xs i a c.loop-a-test.true ∙ ap (λ (b : Args). take i xs ++ b ∷ []) (sym c.a-item.is)) in
    subst (λ (cs : List Cooked). RanWith how (plan_of c.args.plan.now) cs c.take.new.self)
    (all_next c.args.moment before (take i xs) a ∙ ap (λ (ys : List Args). before ++ all_at c.args.moment ys) longer)
    (c.in_ok-take.ensures.ran how (before ++ all_at c.args.moment (take i xs)) (c.loop-a.invariant how before ran))

pub returns : goal.returns
returns c how before ran =
    subst (λ (ys : List Args). RanWith how (plan_of c.args.plan.now) (before ++ all_at c.args.moment ys) c.loop-a.schedule)
    (take_all c.loop-a.a-index c.args.args.now c.loop-a-test.false)
    (c.loop-a.invariant how before ran)
