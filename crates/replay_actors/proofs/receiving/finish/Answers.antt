use Rattle.std.proofs.Common.{subst}
use Rattle.dispatch_calls.specs.declared.call.Call.TheVariants.{Finish}
use Rattle.replay_actors.proofs.Coming.{Called, finished, finish_left}
use Rattle.replay_actors.proofs.receiving.finish.Goals as goal

pub returns-in-Ok-clause-came : goal.returns-in-Ok-clause-came
returns-in-Ok-clause-came c =
    let is = subst (λ n. Called (Finish n c.args.channel c.args.seq) c.in-Ok.field-0 c.args.core.now c.apply.new.self) c.zero.ensures c.in-Ok.ensures.entry in
    λ f start. finished f start c.args.core.now c.apply.new.self c.args.channel c.args.seq c.in-Ok.field-0 is

pub returns-in-Ok-clause-same : goal.returns-in-Ok-clause-same
returns-in-Ok-clause-same c =
    let is = subst (λ n. Called (Finish n c.args.channel c.args.seq) c.in-Ok.field-0 c.args.core.now c.apply.new.self) c.zero.ensures c.in-Ok.ensures.entry in
    finish_left c.args.core.now c.apply.new.self c.args.channel c.args.seq c.in-Ok.field-0 is c.apply.ensures.sound
