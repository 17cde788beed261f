-- What a stable sort by the moment ensures.
use Rattle.std.proofs.Common.{rules}
use Rattle.std.proofs.lemmas.List.Sorted.{All-permutation, IsNonDecreasingBy-from_sort_by_key, answers_always}
use Rattle.session_plan.specs.Valid.{IsStep}
use Rattle.session_plan.proofs.Order.{sorted_is}
use Rattle.session_plan.proofs.step.in_order.Goals as goal

pub returns-clause-value : goal.returns-clause-value
returns-clause-value c =
    sorted_is c.args.steps.items c.sort_by_key.new.self.items
    (IsNonDecreasingBy-from_sort_by_key (λ s. s.at) c.sort_by_key.new.self.items c.in_ok-sort_by_key.ensures.sorted (λ a r q k. search rules))
    (c.in_ok-sort_by_key.ensures.stable (λ s. s.at) (answers_always _ _ _ (λ f a r q k. search rules)))

pub returns-clause-valid : goal.returns-clause-valid
returns-clause-valid c = All-permutation IsStep _ _ c.in_ok-sort_by_key.ensures.permutation c.requires

pub returns-clause-rising : goal.returns-clause-rising
returns-clause-rising c = IsNonDecreasingBy-from_sort_by_key (λ s. s.at) c.sort_by_key.new.self.items c.in_ok-sort_by_key.ensures.sorted (λ a r q k. search rules)
