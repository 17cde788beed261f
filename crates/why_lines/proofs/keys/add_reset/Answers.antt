use Rattle.std.proofs.Common.{◌||◌, ◌==◌, ◌++◌, ap}
use Rattle.std.specs.Prelude.{codes}
use Rattle.std.specs.Fmt.{decimal}
use Rattle.std.specs.List.{list_any}
use Rattle.window_snapshot.specs.Mask.{mask_has}
use Rattle.dispatch_history.specs.Keys.{keys}
use Rattle.dispatch_history.specs.Step.{scene}
use Rattle.why_text.specs.Text.{line}
use Rattle.why_lines.proofs.Words.{same_windows}
use Rattle.why_lines.proofs.Growing.{same_after}
use Rattle.why_lines.proofs.keys.add_reset.Goals as goal

pub returns : goal.returns
returns c es st =
    let d = c.args.device in
    let s = scene c.args.dispatcher.now.displays es in
    same_after c.reset.result c.reset.new.text.items _ _ c.reset.ensures
    (ap (λ windows. c.args.text.now.items ++ line c.args.clock (codes "reset " ++ decimal d ++ codes " from " ++ windows))
    (same_windows (mask_has c.held_of-held.result) (λ w. s.any w d || list_any (λ k. k.device == d) (keys es w)) (c.held_of-held.ensures es st)))
