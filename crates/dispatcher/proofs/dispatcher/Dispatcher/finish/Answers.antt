use Rattle.std.proofs.lemmas.Bool.{true≢false}
use Rattle.dispatch_calls.specs.declared.call.Call.TheVariants.{Finish}
use Rattle.dispatcher.proofs.Made.Answered.{passed, passed_holds, counted}
use Rattle.dispatcher.proofs.Made.Applying.{raw}
use Rattle.dispatcher.proofs.Made.Timely.{timely}
use Rattle.dispatcher.specs.Outcomes.{reply_of}
use Rattle.std.proofs.Common.{max, refl, ap, ◌∙◌, sym}
use Rattle.dispatcher.proofs.dispatcher.Dispatcher.finish.Goals as goal

pub finish-requires : goal.finish-requires
finish-requires c =
    let s = c.self.invariant.0 in
    timely _ s.0 c.self.inside.tables.queueing c.self.inside.tables.routing c.args.now c.later-clock.result (raw s.0 c.self.inside.tables s.1) (c.later-clock.ensures ∙ ap (λ n. max c.args.now n) c.clock.ensures)

pub returns-clause-ok : goal.returns-clause-ok
returns-clause-ok c =
    passed c.self.inside.tables c.go_on.new.self c.finish.new.routing c.args.self.now c.self.view_is (λ now. Finish now c.args.channel c.args.seq) (reply_of c.finish.result) c.args.now c.self.inside.tables.queueing.place c.later-clock.result
    refl
    refl
    (c.later-clock.ensures ∙ ap (λ n. max c.args.now n) c.clock.ensures)
    refl
    c.go_on.ensures
    (c.finish.ensures c.self.inside.tables.queueing.place)

pub invariant_of-self : goal.invariant_of-self
invariant_of-self c =
    passed_holds c.self.inside.tables c.go_on.new.self c.finish.new.routing c.self.invariant.0 (λ now. Finish now c.args.channel c.args.seq) (reply_of c.finish.result) c.args.now c.self.inside.tables.queueing.place c.later-clock.result
    refl
    refl
    (c.later-clock.ensures ∙ ap (λ n. max c.args.now n) c.clock.ensures)
    refl
    c.go_on.ensures
    (c.finish.ensures c.self.inside.tables.queueing.place)

pub returns-in_err-may_step-clause-calm : goal.returns-in_err-may_step-clause-calm
returns-in_err-may_step-clause-calm c es s few calm =
    absurd (true≢false (sym (c.in_err-may_step.ensures.few (counted es c.self.inside.tables c.args.self.now c.self.view_is s few))))
