use Rattle.std.proofs.Common.{sym, ap, ◌∙◌, ◌≡◌}
use Rattle.touch_state.specs.Touches.{Touches}
use Rattle.route_split.specs.Tables.{table_of}
use Rattle.route_split.proofs.Changing.{table-at}
use Rattle.route_split.proofs.Near.{marks_motion}
use Rattle.route_split.proofs.touches.Touches.mark_of.Goals as goal

pub returns : goal.returns
returns c =
    let t : Touches = c.index.result.now in
    let d = c.args.motion.now.device in
    let at : table_of c.args.self.now d ≡ t =
    ap (λ ts. table_of ts d) (sym c.self.view_is)
    ∙ table-at c.self.inside.states.items d c.index_of.result t c.self.invariant.eight c.index_of.ensures.device c.index_of.ensures.value ∙ sym c.index.ensures in
    record {
      mark = λ s f e. marks_motion s c.args.self.now t c.args.windows.now c.args.reach.now c.args.able c.args.motion.now c.mark_of.result f e at c.mark_of.ensures;
      whole = c.mark_of.ensures.whole;
    }
