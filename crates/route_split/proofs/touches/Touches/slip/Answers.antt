use Rattle.std.proofs.Common.{sym, ap, ◌∙◌, ◌≡◌}
use Rattle.touch_state.specs.Touches.{Touches}
use Rattle.route_split.specs.Tables.{table_of}
use Rattle.route_split.proofs.Changing.{table-at}
use Rattle.route_split.proofs.Near.{slip_near}
use Rattle.route_split.proofs.touches.Touches.slip.Goals as goal

pub returns : goal.returns
returns c s f e =
    let t : Touches = c.index.result.now in
    let d = c.args.motion.now.device in
    let at : table_of c.args.self.now d ≡ t =
    ap (λ ts. table_of ts d) (sym c.self.view_is)
    ∙ table-at c.self.inside.states.items d c.index_of.result t c.self.invariant.eight c.index_of.ensures.device c.index_of.ensures.value ∙ sym c.index.ensures in
    c.slip_of.ensures.slip ∙ slip_near s c.args.self.now t c.args.windows.now c.args.reach.now c.args.able c.args.motion.now f e at
