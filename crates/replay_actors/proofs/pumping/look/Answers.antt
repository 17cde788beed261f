use Rattle.std.proofs.Common.{subst}
use Rattle.dispatch_calls.specs.declared.call.Call.TheVariants.{Tick}
use Rattle.replay_actors.proofs.Coming.{Called, ticked}
use Rattle.replay_actors.proofs.pumping.look.Goals as goal

pub returns-in-Ok-clause-came : goal.returns-in-Ok-clause-came
returns-in-Ok-clause-came c =
    let is = subst (λ n. Called (Tick n) c.in-Ok.field-0 c.args.core.now c.apply.new.self) c.zero.ensures c.in-Ok.ensures.entry in
    λ f start. ticked f start c.args.core.now c.apply.new.self c.in-Ok.field-0 is
