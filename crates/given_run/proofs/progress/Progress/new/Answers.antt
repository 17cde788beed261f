-- The channels are opened, and nothing is used up.
use Rattle.std.proofs.Common.{map, refl, arith}
use Rattle.std.proofs.lemmas.List.{length-map}
use Rattle.dispatch_history.specs.Ordered.{begun}
use Rattle.schedule.specs.Planned.{channel_of, plan_of, step_of}
use Rattle.given_run.specs.Planned.{cooked_of, whole_plan}
use Rattle.given_run.proofs.Coming.{comes_first, has_whole}
use Rattle.given_run.proofs.progress.Progress.new.Goals as goal

pub returns : goal.returns
returns c = λ cooked.
    comes_first (whole_plan c.args.plan.now cooked) _ (omega (arith, length-map c.args.plan.now.channels.items channel_of, c.requires.few))
    (has_whole (plan_of c.args.plan.now) (map cooked_of cooked) (begun (plan_of c.args.plan.now)) _ c.in_ok-run.ensures.has) refl
    (c.in_ok-lanes.ensures (map step_of c.args.plan.now.steps.items))
