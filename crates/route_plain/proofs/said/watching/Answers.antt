use Rattle.std.proofs.Common.{ap, ◌∙◌, ◌&&◌}
use Rattle.window_snapshot.specs.Mask.{mask_has}
use Rattle.route_plain.proofs.Left.{mask_has-and}
use Rattle.route_plain.proofs.said.watching.Goals as goal

pub returns-in-Down-Some : goal.returns-in-Down-Some
returns-in-Down-Some c =
    λ k. rw (c.in-Down-Some.is-0, c.in-Down-Some.is-1)
    (mask_has-and c.args.seen.now.able c.watchers.result k ∙ ap (λ b. mask_has c.args.seen.now.able k && b) (c.watchers.ensures k))
