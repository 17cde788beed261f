use Rattle.std.proofs.lemmas.Bool.{true≢false}
use Rattle.dispatch_calls.specs.declared.call.Call.TheVariants.{Remove}
use Rattle.dispatcher.proofs.Made.Answered.{passed, passed_holds, counted}
use Rattle.dispatcher.specs.Outcomes.{reply_of}
use Rattle.std.proofs.Common.{max, refl, sym}
use Rattle.dispatcher.proofs.dispatcher.Dispatcher.remove.Goals as goal

pub returns-clause-ok : goal.returns-clause-ok
returns-clause-ok c =
    passed c.self.inside.tables c.go_on.new.self c.remove.new.routing c.args.self.now c.self.view_is (λ now. Remove now c.args.channel) (reply_of c.remove.result) c.args.now c.place-place.result (max c.args.now c.self.inside.tables.queueing.clock)
    refl
    refl
    refl
    c.place-place.ensures
    c.go_on.ensures
    (c.remove.ensures (max c.args.now c.self.inside.tables.queueing.clock))

pub invariant_of-self : goal.invariant_of-self
invariant_of-self c =
    passed_holds c.self.inside.tables c.go_on.new.self c.remove.new.routing c.self.invariant.0 (λ now. Remove now c.args.channel) (reply_of c.remove.result) c.args.now c.place-place.result (max c.args.now c.self.inside.tables.queueing.clock)
    refl
    refl
    refl
    c.place-place.ensures
    c.go_on.ensures
    (c.remove.ensures (max c.args.now c.self.inside.tables.queueing.clock))

pub returns-in_err-may_step-clause-calm : goal.returns-in_err-may_step-clause-calm
returns-in_err-may_step-clause-calm c es s few calm =
    absurd (true≢false (sym (c.in_err-may_step.ensures.few (counted es c.self.inside.tables c.args.self.now c.self.view_is s few))))
