use Rattle.std.proofs.Common.{◌+◌, ◌∙◌, refl}
use Rattle.turnstile.proofs.Taken.{waited_more}
use Rattle.turnstile.proofs.turnstile.Turnstile.wait_turn.Goals as goal

pub loop-preserved : goal.loop-preserved
loop-preserved g c =
    let past = c.loop.invariant in
    let n = past.3.0 in (
      tt,
      tt,
      c.take.ensures.same ∙ past.2,
      (n + 1, waited_more n c.args.token.now.me c.loop.token.me c.take.new.token.me past.3.1 (c.if-take.ensures.missed refl)),
    )
