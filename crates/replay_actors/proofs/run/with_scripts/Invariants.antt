use Rattle.std.proofs.Common.{◌≡◌, List, ◌++◌, length}
use Rattle.std.specs.Prelude.{Vec, vec_len}
use Rattle.std.specs.declared.alloc.Global.{Global}
use Rattle.session_plan.specs.declared.plan.Step.{Step}
use Rattle.replay_actors.specs.Plans.{scripts_before}
use Rattle.replay_actors.proofs.run.with_scripts.Given as goal

-- the scripts that are not left stand before the other parts
abbrev pub invariant-scripts : goal.invariant-scripts
invariant-scripts l =
    (after : List (Vec Step Global))
    × (l.initial.scripts.items ≡ l.scripts.items ++ after)
    × (l.parts ≡ scripts_before l.initial.parts (length l.scripts.items) after)

abbrev pub decreases-scripts : goal.decreases-scripts
decreases-scripts l = vec_len l.scripts
