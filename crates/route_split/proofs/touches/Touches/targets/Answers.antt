use Rattle.std.proofs.Common.{◌==◌, ◌&&◌, sym, ap, ◌∙◌, ◌≡◌}
use Rattle.window_snapshot.specs.Mask.{is_channel}
use Rattle.std.specs.List.{list_any}
use Rattle.touch_state.specs.Touches.{Touches}
use Rattle.route_split.specs.Tables.{table_of}
use Rattle.route_split.proofs.Changing.{table-at}
use Rattle.route_split.proofs.Near.{targets_near}
use Rattle.route_split.proofs.touches.Touches.targets.Goals as goal

pub returns : goal.returns
returns c s f e w =
    let t : Touches = c.index.result.now in
    let d = c.args.device in
    let at : table_of c.args.self.now d ≡ t =
    ap (λ ts. table_of ts d) (sym c.self.view_is)
    ∙ table-at c.self.inside.states.items d c.index_of.result t c.self.invariant.eight c.index_of.ensures.device c.index_of.ensures.value ∙ sym c.index.ensures in
    c.targets.ensures w
    ∙ ap (λ vs. is_channel w && list_any (λ v. v == w) vs) (targets_near s c.args.self.now t c.args.windows.now c.args.reach.now c.args.able d c.args.at f e at)
