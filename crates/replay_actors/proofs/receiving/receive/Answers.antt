use Rattle.std.proofs.Common.{◌∙◌, subst, sym, arith}
use Rattle.std.proofs.lemmas.Bool.{true≢false}
use Rattle.dispatch_calls.specs.declared.call.Call.TheVariants.{Receive}
use Rattle.replay_actors.specs.Settling.{owes_to}
use Rattle.replay_actors.specs.Came.{Came, CameSome}
use Rattle.replay_actors.proofs.Coming.{Called, on_err, receive_owes, receive_more, receive_none, take_left}
use Rattle.replay_actors.proofs.receiving.receive.Goals as goal

pub returns-in_err-finish-in-Got-clause-err : goal.returns-in_err-finish-in-Got-clause-err
returns-in_err-finish-in-Got-clause-err c =
    let is = subst (λ r. Called (Receive c.args.channel) r c.args.core.now c.apply.new.self) c.in-Got.is c.in-Ok.ensures.entry in
    λ f start on came.
    on_err c.from_residual.result (CameSome f start c.finish.new.core) (
      owes_to c.args.channel c.in-Got.message.seq,
      tt,
      subst (Came f start (owes_to c.args.channel c.in-Got.message.seq)) (sym c.in_err-finish-in-Got.ensures.err)
          (receive_owes f start c.args.core.now c.apply.new.self c.args.channel c.in-Got.message is (on ∙ c.if-finishes.true) came),
    )

pub returns-in_ok-finish-in-Got-clause-came : goal.returns-in_ok-finish-in-Got-clause-came
returns-in_ok-finish-in-Got-clause-came c =
    let is = subst (λ r. Called (Receive c.args.channel) r c.args.core.now c.apply.new.self) c.in-Got.is c.in-Ok.ensures.entry in
    λ f start on came. c.in_ok-finish-in-Got.ensures.came f start (receive_owes f start c.args.core.now c.apply.new.self c.args.channel c.in-Got.message is (on ∙ c.if-finishes.true) came)

pub returns-in_ok-finish-in-Got-clause-less : goal.returns-in_ok-finish-in-Got-clause-less
returns-in_ok-finish-in-Got-clause-less c =
    let is = subst (λ r. Called (Receive c.args.channel) r c.args.core.now c.apply.new.self) c.in-Got.is c.in-Ok.ensures.entry in
    let less = take_left c.args.core.now c.apply.new.self c.args.channel c.in-Got.message is c.apply.ensures.sound in
    let same = c.in_ok-finish-in-Got.ensures.same in
    λ e. omega (arith, less, same)

pub returns-else-finishes-clause-came : goal.returns-else-finishes-clause-came
returns-else-finishes-clause-came c =
    let is = subst (λ r. Called (Receive c.args.channel) r c.args.core.now c.apply.new.self) c.in-Got.is c.in-Ok.ensures.entry in
    λ f start off came. receive_more f start c.args.core.now c.apply.new.self c.args.channel c.in-Got.message is (off ∙ c.if-finishes.false) came

pub returns-else-finishes-clause-less : goal.returns-else-finishes-clause-less
returns-else-finishes-clause-less c =
    let is = subst (λ r. Called (Receive c.args.channel) r c.args.core.now c.apply.new.self) c.in-Got.is c.in-Ok.ensures.entry in
    λ e. take_left c.args.core.now c.apply.new.self c.args.channel c.in-Got.message is c.apply.ensures.sound

pub returns-in_default : goal.returns-in_default
returns-in_default c =
    record {
      came = λ f start on came. receive_none f start c.args.core.now c.apply.new.self c.args.channel c.in-Ok.reply c.in-Ok.ensures.entry c.in_default.not-Got came;
      less = λ e. absurd (true≢false (sym e));
      err = λ f start on came. tt;
      sound = c.apply.ensures.sound;
    }
