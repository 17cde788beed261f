-- The next step of the lane is passed.
use Rattle.std.proofs.Common.{◌≡◌, ◌∙◌, ◌<◌, ◌+◌, ◌∷◌, ℕ, List, length, map, get_or, sym, ap, subst, refl, arith}
use Rattle.std.specs.Prelude.{Some, slice_get, slice_set}
use Rattle.std.proofs.lemmas.List.{get_or_default}
use Rattle.std.proofs.lemmas.Option.{slice_get_read}
use Rattle.dispatch_history.specs.Given.{next_of_lane, without_next}
use Rattle.dispatch_history.specs.Plan.{ScriptStep}
use Rattle.schedule.specs.declared.plan.Step.{Step}
use Rattle.schedule.specs.Planned.{step_of}
use Rattle.given_run.specs.Lanes.{calls_from, search_from, IsLeft}
use Rattle.given_run.proofs.Left.{lane_ends, lane_moves}
use Rattle.given_run.proofs.lanes.Lanes.next.Goals as goal

-- the index from which the next step of the lane is searched
looked : (places : List ℕ) (lane at found : ℕ) → length places ≡ 256 → lane < 256 → at ≡ lane → found ≡ get_or places at found → found ≡ search_from places lane
looked places lane at found wide low e is = is ∙ ap (λ k. get_or places k found) e ∙ get_or_default places lane found 0 (omega (arith, wide, low))

-- the lane's next step, if its index is known
moved : (steps : List Step) (left : List ScriptStep) (places old : List ℕ) (lane from at : ℕ) (x : Step)
    → places ≡ old → length places ≡ 256 → lane < 256 → from ≡ search_from places lane → IsLeft (map step_of steps) left old
    → calls_from steps lane from ≡ x.call ∷ calls_from steps lane (at + 1)
    → (next_of_lane lane left ≡ Some x.call) × IsLeft (map step_of steps) (without_next lane left) (slice_set places lane (at + 1))
moved steps left places old lane from at x view wide low is there here =
    lane_moves (map step_of steps) left places lane (at + 1) x.call wide low (subst (IsLeft (map step_of steps) left) (sym view) there)
    (sym (ap (λ k. calls_from steps lane k) is) ∙ here)

pub returns-clause-step : goal.returns-clause-step
returns-clause-step c = λ left is.
    let low : c.args.lane < 256 = omega arith in
    let from = looked c.self.inside.places.items c.args.lane c.from.result c.index-from.result.now c.self.invariant low c.from.ensures c.index-from.ensures in
    let x : slice_get c.args.steps.now c.in-Some.at ≡ Some c.index-steps-at.result =
    slice_get_read c.args.steps.now (length c.args.steps.now) c.in-Some.at c.index-steps-at.result refl c.in-Some.ensures.0 c.index-steps-at.is in
    sym (moved c.args.steps.now left c.self.inside.places.items c.args.self.now c.args.lane c.index-from.result.now c.in-Some.at c.index-steps-at.result
    c.self.view_is c.self.invariant low from is (c.in-Some.ensures.1 c.index-steps-at.result x)).0

pub returns-clause-left : goal.returns-clause-left
returns-clause-left c = λ left is.
    let low : c.args.lane < 256 = omega arith in
    let from = looked c.self.inside.places.items c.args.lane c.from.result c.index-from.result.now c.self.invariant low c.from.ensures c.index-from.ensures in
    let x : slice_get c.args.steps.now c.in-Some.at ≡ Some c.index-steps-at.result =
    slice_get_read c.args.steps.now (length c.args.steps.now) c.in-Some.at c.index-steps-at.result refl c.in-Some.ensures.0 c.index-steps-at.is in
    subst (λ k. IsLeft (map step_of c.args.steps.now) (without_next c.args.lane left) (slice_set c.self.inside.places.items k (c.in-Some.at + 1))) (sym c.from-2.ensures)
    (moved c.args.steps.now left c.self.inside.places.items c.args.self.now c.args.lane c.index-from.result.now c.in-Some.at c.index-steps-at.result
    c.self.view_is c.self.invariant low from is (c.in-Some.ensures.1 c.index-steps-at.result x)).1

pub returns-in_default-clause-step : goal.returns-in_default-clause-step
returns-in_default-clause-step c = λ left is.
    let low : c.args.lane < 256 = omega arith in
    let from = looked c.self.inside.places.items c.args.lane c.from.result c.index-from.result.now c.self.invariant low c.from.ensures c.index-from.ensures in
    sym (lane_ends (map step_of c.args.steps.now) left c.self.inside.places.items c.args.lane low (subst (IsLeft (map step_of c.args.steps.now) left) (sym c.self.view_is) is)
    (sym (ap (λ k. calls_from c.args.steps.now c.args.lane k) from) ∙ c.in_default.ensures))
