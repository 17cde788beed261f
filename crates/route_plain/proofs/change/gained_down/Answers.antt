use Rattle.std.proofs.Common.{ap, ◌∙◌}
use Rattle.std.proofs.lemmas.Result.{IfOk-weaker}
use Rattle.window_snapshot.specs.Mask.{mask_has}
use Rattle.route_plain.specs.Seen.{scene_at}
use Rattle.route_plain.proofs.Gains.{gains_are}
use Rattle.route_plain.proofs.change.gained_down.Goals as goal

pub returns : goal.returns
returns c =
    IfOk-weaker c.taken_by.result _ _
    (λ v e. e
    ∙ gains_are (scene_at c.args.seen.now) c.args.device c.args.pointer.id c.args.turn c.args.seen.now.holds.now c.args.pointer.at
    (mask_has c.spies-spies.result) c.spies-spies.ensures c.choice_at-chosen.result.window (ap (λ x. x.window) c.choice_at-chosen.ensures) c.some_pilfering-some.result
    c.some_pilfering-some.ensures)
    c.taken_by.ensures
