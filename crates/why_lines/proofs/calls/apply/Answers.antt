use Rattle.dispatcher.proofs.Laws.Standing.{after_of}
use Rattle.why_lines.proofs.Making.{sends_of}
use Rattle.why_lines.proofs.calls.apply.Goals as goal

pub returns-clause-outgoing : goal.returns-clause-outgoing
returns-clause-outgoing c es st =
    sends_of c.args.call.now c.explain.result es _ _ c.args.dispatcher.now c.explain.new.dispatcher st c.explain.ensures.made
    (c.explain.ensures.known es (after_of es c.args.dispatcher.now st))
