use Rattle.std.proofs.Common.{◌≡◌, ◌+◌, ◌++◌, map, drop}
use Rattle.toml.specs.View.{view}
use Rattle.unread_keys.specs.Session.{windows_from}
use Rattle.unread_keys.proofs.table.add_windows.Given as goal

-- the lines so far, and then those of the tables that are left, are all
abbrev pub invariant-loop-j : goal.invariant-loop-j
invariant-loop-j l = l.text.items ++ windows_from l.k (l.j + 1) (map view (drop l.j l.windows)) ≡ l.fn.text.items ++ windows_from l.k 1 (map view l.windows)
