-- It is what the dispatcher says.
use Rattle.std.proofs.Common.{sym, subst}
use Rattle.dispatcher.proofs.Laws.Standing.{after_of}
use Rattle.live_input.specs.Standing.{LiveIs}
use Rattle.live_input.proofs.live.Live.next_call.Goals as goal

pub returns : goal.returns
returns c = λ ds es h.
    let there = subst (LiveIs ds es) (sym c.self.view_is) h in
    c.next_due.ensures es (after_of es c.self.inside.dispatcher there.stands)
