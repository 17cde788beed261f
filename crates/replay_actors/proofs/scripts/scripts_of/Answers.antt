use Rattle.std.proofs.Common.{◌≡◌, ◌+◌, ◌++◌, ◌∙◌, ap, sym, arith, map}
use Rattle.std.specs.Prelude.{vec_len}
use Rattle.std.proofs.lemmas.Iterator.Adapters.{YieldsList-from_vec}
use Rattle.std.proofs.lemmas.Iterator.Consumers.{YieldsList-end}
use Rattle.replay_actors.specs.Orders.{AreLanes}
use Rattle.dispatch_history.specs.Given.{calls_of_lane}
use Rattle.replay_actors.specs.Session.{step_of}
use Rattle.replay_actors.specs.Plans.{scripted}
use Rattle.replay_actors.specs.Scripts.{call_for}
use Rattle.replay_actors.proofs.Dealing.{lane_more, lanes_are, as_they_are}
use Rattle.replay_actors.proofs.scripts.scripts_of.Goals as goal

pub loop-step-preserved : goal.loop-step-preserved
loop-step-preserved c =
    let eight : vec_len c.loop-step.scripts ≡ 8 = c.loop-step.invariant.0 in (
      c.deal.ensures.len ∙ eight,
      λ k lt.
          c.in_ok-deal.ensures.dealt k (omega (arith, lt, eight))
          ∙ ap (λ cs. cs ++ call_for c.in-Some.step k) (c.loop-step.invariant.1 k lt)
          ∙ sym (lane_more k c.loop-step.yielded c.in-Some.step),
    )

lanes : (c : goal.After-drop-step-iterator-2) → AreLanes 1 (scripted c.loop-step.scripts.items) (map step_of c.args.steps.items)
lanes c =
    let given = c.into_iter-step-iterator.ensures.into_iter_gives in
    let end = YieldsList-end (YieldsList-from_vec {s = c.into_iter-step-iterator.result} c.args.steps.items given.0 (omega (arith, given.1))) c.loop-step.yielded c.loop-step.step-iterator c.loop-step.yielded_by c.next.result c.next.new.self c.in-None.is c.next.ensures.steps in
    let all : c.loop-step.yielded ≡ c.args.steps.items = sym (as_they_are c.loop-step.yielded) ∙ end.0 in
    let eight : vec_len c.loop-step.scripts ≡ 8 = c.loop-step.invariant.0 in
    lanes_are c.loop-step.scripts.items c.args.steps.items (omega (arith, eight))
    (λ k lt. c.loop-step.invariant.1 k lt ∙ ap (λ ss. calls_of_lane (k + 1) (map step_of ss)) all)

pub returns-clause-lanes : goal.returns-clause-lanes
returns-clause-lanes c = lanes c
