use Rattle.std.proofs.Common.{◌≡◌, map, drop}
use Rattle.key_layout.specs.KeyNames.{code_in}
use Rattle.key_layout.proofs.key_name.code_in.Given as goal

-- the answer is that of the remaining names
abbrev pub invariant-loop-known : goal.invariant-loop-known
invariant-loop-known l =
    code_in (map (λ entry. (entry.0.now, entry.1)) (drop l.known-index l.names)) l.name ≡ code_in (map (λ entry. (entry.0.now, entry.1)) l.names) l.name
