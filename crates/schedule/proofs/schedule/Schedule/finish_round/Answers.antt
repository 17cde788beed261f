-- After a finish one owner receives, and no other one has more to take.
use Rattle.std.proofs.Common.{◌∙◌, List, refl, sym, subst}
use Rattle.std.specs.Prelude.{OnOk}
use Rattle.dispatch_calls.specs.declared.call.Call.{Call}
use Rattle.dispatch_calls.specs.declared.call.Call.TheVariants.{Finish}
use Rattle.dispatch_history.specs.Effect.{Effect}
use Rattle.dispatch_history.specs.Legal.{answered}
use Rattle.schedule.specs.State.{HasWith}
use Rattle.schedule.proofs.Going.{first_call, ready_again, on_ok_both}
use Rattle.schedule.proofs.More.{goes_twice}
use Rattle.schedule.proofs.OneFinish.{finish_received}
use Rattle.schedule.proofs.Released.{released_stay, silent_stream}
use Rattle.schedule.proofs.Stepping.{lawful_of, on_ok_any}
use Rattle.schedule.proofs.schedule.Schedule.finish_round.Goals as goal

pub returns-clause-after : goal.returns-clause-after
returns-clause-after c = λ how plan es r.
    let call : Call = Finish c.args.now c.args.channel c.args.seq in
    let mid = answered plan.displays call es in
    let l = lawful_of how plan es _ r.has in
    let has = c.in_ok-finish_one.ensures.after how plan es r.has in
    let all = finish_received plan.displays es c.args.now c.args.channel c.args.seq l r.caught in
    let released =
    released_stay es mid c.args.self.now.dispatcher c.receive.new.self.dispatcher (λ d. silent_stream plan.displays call es d l refl)
    (λ d low. c.receive.ensures.kept.gone d low ∙ c.finish_one.ensures.kept.gone d low) r.all_released in
    on_ok_both c.receive.result _ _ _
    (subst (λ (fs : List Effect). OnOk c.receive.result (HasWith how plan fs c.receive.new.self)) (sym all) (c.receive.ensures.after how plan mid has))
    (on_ok_any c.receive.result _ released)
    (λ every none. ready_again how plan es mid c.receive.new.self (first_call plan.displays es call l r.caught refl) r.opened_is every none)

pub returns-clause-more : goal.returns-clause-more
returns-clause-more c = goes_twice c.receive.ensures.kept.more c.finish_one.ensures.kept.more
