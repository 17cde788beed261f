-- A channel that was not opened is not asked of.
use Rattle.std.proofs.Common.{sym, subst, arith}
use Rattle.dispatcher.specs.Dispatching.{IsAfter}
use Rattle.dispatcher.proofs.Made.Applying.{raw}
use Rattle.dispatcher.proofs.Made.Releasing.{opened_at}
use Rattle.dispatcher.proofs.dispatcher.Dispatcher.oldest.Goals as goal
use Rattle.dispatcher.proofs.dispatcher.Dispatcher.oldest.Goals.{else-channel-gt0-via-then-channel-gt0+else-channel-opened, else-channel-gt0-via-else-channel-gt0}

pub returns-else-channel-gt0-clause-value : goal.returns-else-channel-gt0-clause-value
returns-else-channel-gt0-clause-value c =
    λ es s there.
    let old = c.self.inside.tables in
    let at = opened_at es old c.args.channel (raw es old (subst (IsAfter es) (sym c.self.view_is) s)) there in
    absurd
    (elim c.else-channel-gt0.branch [
      | else-channel-gt0-via-then-channel-gt0+else-channel-opened w ↦ omega (arith, w.if-channel-opened.false, w.opened.ensures.value, at.1)
      | else-channel-gt0-via-else-channel-gt0 w ↦ omega (arith, w.if-channel-gt0.false, at.0)
    ])
