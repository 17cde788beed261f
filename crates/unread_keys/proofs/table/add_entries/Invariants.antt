use Rattle.std.proofs.Common.{◌≡◌, ◌+◌, ◌++◌, map, drop}
use Rattle.toml.specs.View.{view}
use Rattle.unread_keys.specs.Session.{entries_from}
use Rattle.unread_keys.proofs.table.add_entries.Given as goal

-- the lines so far, and then those of the tables that are left, are all
abbrev pub invariant-loop-i : goal.invariant-loop-i
invariant-loop-i l = l.text.items ++ entries_from l.array (l.i + 1) (map view (drop l.i l.entries)) ≡ l.fn.text.items ++ entries_from l.array 1 (map view l.entries)
