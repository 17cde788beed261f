use Rattle.std.proofs.Common.{◌≡◌, ◌++◌}
use Rattle.toml.specs.View.{members_view}
use Rattle.unread_keys.specs.Lines.{unread_lines}
use Rattle.unread_keys.proofs.table.add_keys.Given as goal

-- the lines so far, and then those of the keys that are left, are all
abbrev pub invariant-loop-key : goal.invariant-loop-key
invariant-loop-key l =
    l.text.items ++ unread_lines l.place l.kind (members_view l.key-iterator) ≡ l.fn.text.items ++ unread_lines l.place l.kind (members_view l.fn.table.entries)
