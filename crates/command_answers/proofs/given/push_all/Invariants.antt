use Rattle.std.proofs.Common.{◌≡◌, ◌++◌, map, take}
use Rattle.given_run.specs.Planned.{cooked_of}
use Rattle.command_files.proofs.NextGiven.{all_at}
use Rattle.command_answers.proofs.given.push_all.Given as goal

-- the args so far stand behind the others
abbrev pub invariant-loop-a : goal.invariant-loop-a
invariant-loop-a l = map cooked_of l.all.items ≡ map cooked_of l.initial.all.items ++ all_at l.moment (take l.a-index l.args)
