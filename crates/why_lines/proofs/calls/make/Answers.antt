use Rattle.dispatcher.proofs.Made.Following.{known_so}
use Rattle.why_lines.proofs.Outgoing.{unsent}
use Rattle.why_lines.proofs.calls.make.Goals as goal

pub returns-clause-known : goal.returns-clause-known
returns-clause-known c text es st =
    let p = known_so _ _ _ c.in_ok-take_step.ensures.ok es st in
    (unsent c.args.dispatcher.now.displays c.args.call.now es text p.0 c.take_step.new.dispatcher p.1 (c.requires p.0))
