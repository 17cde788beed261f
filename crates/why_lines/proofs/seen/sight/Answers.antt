use Rattle.std.proofs.Common.{sym, subst}
use Rattle.std.proofs.Math.Path.{fun_ext}
use Rattle.dispatch_history.specs.Step.{scene}
use Rattle.route_split.specs.Tables.{Stands}
use Rattle.dispatcher.proofs.Laws.ShownLaws.{touches_scene_law}
use Rattle.why_lines.proofs.seen.sight.Goals as goal

pub returns : goal.returns
returns c es st =
    let d = c.args.dispatcher.now in
    record {
      stands = subst (Stands (scene d.displays es)) (sym c.touches.ensures.value) (touches_scene_law d.displays es d.touches st.knows.touches);
      sees = record {
        windows_are = sym (c.windows.ensures es st);
        reach_is = fun_ext (λ w. sym (c.reach.ensures es st w));
        able_is = fun_ext (λ w. sym (c.able.ensures es st w));
      };
    }
