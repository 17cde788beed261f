use Rattle.std.proofs.Common.{◌≡◌, ◌++◌, drop, map}
use Rattle.inspect_text.specs.Hints.{behind_commas}
use Rattle.inspect_text.proofs.hints.add_further.Given as goal

-- what is written, with the pointers that are left, is all
abbrev pub invariant-loop-pointer : goal.invariant-loop-pointer
invariant-loop-pointer l =
    l.text.items ++ behind_commas (map (λ h. h.id) (drop l.pointer-index l.held)) ≡ l.initial.text.items ++ behind_commas (map (λ h. h.id) l.held)
