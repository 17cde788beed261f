use Rattle.std.proofs.Common.{◌≡◌, map, drop}
use Rattle.std.specs.List.{list_all}
use Rattle.toml.specs.View.{view}
use Rattle.session_plan.specs.Reading.{is_table}
use Rattle.session_plan.proofs.reading.are_tables.Given as goal

-- the answer is that of the values that are left
abbrev pub invariant-loop-value : goal.invariant-loop-value
invariant-loop-value l = list_all is_table (map view (drop l.value-index l.values)) ≡ list_all is_table (map view l.values)
