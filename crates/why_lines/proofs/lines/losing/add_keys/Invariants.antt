use Rattle.std.proofs.Common.{◌≡◌, ◌++◌, drop, map}
use Rattle.why_text.specs.Lost.{key_item}
use Rattle.why_lines.specs.Lost.{behind_spaces}
use Rattle.why_lines.proofs.lines.losing.add_keys.Given as goal

-- what is written, with the keys that are left, is all
abbrev pub invariant-loop-key : goal.invariant-loop-key
invariant-loop-key l = l.text.items ++ behind_spaces (map key_item (drop l.key-index l.keys)) ≡ l.initial.text.items ++ behind_spaces (map key_item l.keys)
