-- The focus is requested for nobody in place of a choked client.
use Rattle.std.proofs.Common.{true, refl, ap, subst}
use Rattle.dispatch_calls.specs.declared.call.Call.TheVariants.{FocusOn}
use Rattle.live_input.specs.Answers.{Makes}
use Rattle.live_input.specs.Showing.{channel_of}
use Rattle.live_input.specs.State.{LiveState, latest}
use Rattle.live_input.specs.Wanted.{Wanted}
use Rattle.live_input.proofs.limit.Limited.ask_for.Goals as goal

pub returns-in-Ok-clause-ok : goal.returns-in-Ok-clause-ok
returns-in-Ok-clause-ok c = λ ds es h. (
  subst (λ k. Makes ds es (FocusOn (latest c.args.now c.args.self.now.live) c.args.display (channel_of k) true) c.focus.new.self)
      c.unless_choked-asked.ensures (c.in-Ok.ensures.after ds es h).1,
  c.ask.ensures,
)

pub returns-in-Err-clause-err : goal.returns-in-Err-clause-err
returns-in-Err-clause-err c = (ap (λ (l : LiveState). record c.args.self.now { live = l }) c.in-Err.ensures.err, refl)

pub returns-in-Ok-clause-choked : goal.returns-in-Ok-clause-choked
returns-in-Ok-clause-choked c = ap (λ (w : Wanted). w.choked) c.ask.ensures
