-- A step of another lane is skipped; the first one of the lane is its next.
use Rattle.std.proofs.Common.{◌∙◌, ap, sym}
use Rattle.std.proofs.lemmas.Bool.{ne_eqb}
use Rattle.std.proofs.lemmas.Option.{get_or_from_slice_get}
use Rattle.schedule.specs.declared.plan.Step.{Step}
use Rattle.given_run.proofs.Left.{here_is, none_behind, skipped}
use Rattle.given_run.proofs.lanes.next_place.Goals as goal

pub steps-preserved : goal.steps-preserved
steps-preserved c =
    skipped c.args.steps.now c.args.lane c.steps.at c.index-steps-at.result c.steps-test.true c.index-steps-at.is
    (ne_eqb c.index-steps-at.result.lane c.args.lane (λ e. c.if-steps-at.false (sym (ap (λ (s : Step). s.lane) c.index-steps-at.is) ∙ e)))
    ∙ c.steps.invariant

pub returns-then-steps-at : goal.returns-then-steps-at
returns-then-steps-at c = (
  c.steps-test.true,
  λ x e.
      sym c.steps.invariant
      ∙ here_is c.args.steps.now c.args.lane c.steps.at x c.steps-test.true (sym (get_or_from_slice_get c.args.steps.now c.steps.at x x e))
      (sym (ap (λ (s : Step). s.lane) (get_or_from_slice_get c.args.steps.now c.steps.at x c.index-steps-at.result e)) ∙ c.if-steps-at.true),
)

pub returns : goal.returns
returns c = sym c.steps.invariant ∙ none_behind c.args.steps.now c.args.lane c.steps.at c.steps-test.false
