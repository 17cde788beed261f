use Rattle.turnstile.specs.Seats.{view}
use Rattle.replay_actors.proofs.Opened.{opens_one}
use Rattle.replay_actors.proofs.opening.open_one.Goals as goal

pub returns-clause-opened : goal.returns-clause-opened
returns-clause-opened g c =
    opens_one (view c.args.seat.now) (view c.call.new.seat) c.args.terms c.in_ok-call.field-0 c.requires.caller c.requires.few.0 c.requires.few.1
    c.in_ok-call.ensures.answer
