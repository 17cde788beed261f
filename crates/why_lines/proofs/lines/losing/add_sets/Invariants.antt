use Rattle.std.proofs.Common.{◌≡◌, ◌+◌, ◌++◌, drop}
use Rattle.why_lines.specs.Lost.{behind_spaces, ids_from}
use Rattle.why_lines.proofs.lines.losing.add_sets.Given as goal

-- what is written, with the devices that are left, is all
abbrev pub invariant-loop-place : goal.invariant-loop-place
invariant-loop-place l =
    l.text.items ++ behind_spaces (ids_from (l.place + 1) (drop l.place l.sets)) ≡ l.initial.text.items ++ behind_spaces (ids_from 1 l.sets)
