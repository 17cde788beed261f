-- The windows on the display are those of the history.
use Rattle.std.proofs.Common.{sym, ap, ◌∙◌, subst}
use Rattle.live_input.specs.Asking.{client_of_some}
use Rattle.live_input.specs.Standing.{LiveIs}
use Rattle.live_input.proofs.Reached.{touched_is}
use Rattle.live_input.proofs.live.Live.window_at.Goals as goal

pub returns : goal.returns
returns c = λ ds es h.
    let there = subst (LiveIs ds es) (sym c.self.view_is) h in
    c.client_of_some.ensures
    ∙ ap (client_of_some c.args.self.now.seats)
    (c.touched.ensures ∙ touched_is ds es _ there c.args.display c.on.result c.args.at c.on.ensures)
