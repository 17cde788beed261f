use Rattle.std.proofs.Common.{subst}
use Rattle.dispatch_calls.specs.declared.call.Call.TheVariants.{Pump}
use Rattle.dispatch_calls.specs.declared.reply.Reply.TheVariants.{Idle}
use Rattle.replay_actors.proofs.Coming.{Called, pump_idle, pump_more, pump_left}
use Rattle.replay_actors.proofs.pumping.pump.Goals as goal

pub returns-in-Idle-clause-came : goal.returns-in-Idle-clause-came
returns-in-Idle-clause-came c =
    let is = subst (λ n. Called (Pump n) Idle c.args.core.now c.apply.new.self) c.zero.ensures (subst (λ r. Called (Pump c.zero.result) r c.args.core.now c.apply.new.self) c.in-Idle.is c.in-Ok.ensures.entry) in
    λ f start. pump_idle f start c.args.core.now c.apply.new.self is

pub returns-in_default : goal.returns-in_default
returns-in_default c =
    let is = subst (λ n. Called (Pump n) c.in-Ok.reply c.args.core.now c.apply.new.self) c.zero.ensures c.in-Ok.ensures.entry in
    record {
      came = λ f start. pump_more f start c.args.core.now c.apply.new.self c.in-Ok.reply is c.in_default.not-Idle;
      less = λ e. pump_left c.args.core.now c.apply.new.self c.in-Ok.reply is c.apply.ensures.sound c.in_default.not-Idle;
      err = tt;
      sound = c.apply.ensures.sound;
    }
