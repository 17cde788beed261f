use Rattle.std.proofs.Common.{◌≡◌, ◌+◌, ◌-◌, ◌++◌, List}
use Rattle.dispatch_history.specs.Effect.{Effect}
use Rattle.dispatch_history.specs.Plan.{Plan}
use Rattle.schedule.specs.declared.keeping.Lines.TheVariants.{Counted}
use Rattle.schedule.specs.State.{HasWith}
use Rattle.command_answers.specs.Work.{end_lines}
use Rattle.command_answers.proofs.work.add_ends.Given as goal

-- the lines so far, and then those that are left, are all
abbrev pub invariant-loop-place : goal.invariant-loop-place
invariant-loop-place l = (plan : Plan) (es : List Effect) → HasWith Counted plan es l.schedule
    → l.text.items ++ end_lines (l.place + 1) (l.count - l.place) es ≡ l.initial.text.items ++ end_lines 1 l.count es
