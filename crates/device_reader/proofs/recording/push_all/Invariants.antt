use Rattle.std.specs.Prelude.{◌≡◌, ◌++◌, map, drop}
use Rattle.device_reader.proofs.recording.push_all.Given as goal

-- the args so far, with those that are left, are all
abbrev pub invariant-loop-a : goal.invariant-loop-a
invariant-loop-a l = l.given.items ++ map (λ a. (l.moment, a)) (drop l.a-index l.args) ≡ l.initial.given.items ++ map (λ a. (l.moment, a)) l.args
