use Rattle.std.proofs.Common.{◌≡◌, map, drop}
use Rattle.std.specs.List.{list_all}
use Rattle.std.specs.Option.{is_some}
use Rattle.toml.specs.Data.{as_str}
use Rattle.toml.specs.View.{view}
use Rattle.session_plan.proofs.flags.are_texts.Given as goal

-- the answer is that of the values that are left
abbrev pub invariant-loop-value : goal.invariant-loop-value
invariant-loop-value l = list_all (λ d. is_some (as_str d)) (map view (drop l.value-index l.values)) ≡ list_all (λ d. is_some (as_str d)) (map view l.values)
