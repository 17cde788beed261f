use Rattle.std.proofs.Common.{◌≡◌, ◌+◌, map, drop, []}
use Rattle.toml.specs.View.{view}
use Rattle.session_plan.specs.Reading.{each}
use Rattle.session_plan.specs.Steps.{step_of}
use Rattle.std.specs.List.{All}
use Rattle.session_plan.specs.Valid.{IsStep}
use Rattle.session_plan.specs.View.{channel_view}
use Rattle.session_plan.proofs.step.each_step.Given as goal

-- the steps so far, and then those that are left, are all
abbrev pub invariant-loop-i : goal.invariant-loop-i
invariant-loop-i l = record {
  rest :
      each (λ k found d. step_of (map channel_view l.channels) l.devices l.displays k d) (l.i + 1) l.steps.items (map view (drop l.i l.tables))
      ≡ each (λ k found d. step_of (map channel_view l.channels) l.devices l.displays k d) 1 [] (map view l.tables);
  valid : All IsStep l.steps.items;
}
