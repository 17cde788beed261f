use Rattle.replay_actors.specs.Came.{CameSome}
use Rattle.replay_actors.proofs.Coming.{on_err}
use Rattle.replay_actors.proofs.receiving.receive_all.Goals as goal

pub returns-in_err-receive-clause-err : goal.returns-in_err-receive-clause-err
returns-in_err-receive-clause-err c =
    λ f start on came.
    on_err c.from_residual.result (CameSome f start c.receive.new.core)
    (c.in_err-receive.ensures.err f start on (c.receiving.invariant f start on came))
