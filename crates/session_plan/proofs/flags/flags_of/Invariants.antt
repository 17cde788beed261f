use Rattle.std.proofs.Common.{◌≡◌, map, drop}
use Rattle.toml.specs.View.{view}
use Rattle.session_plan.specs.Keys.{key_of}
use Rattle.session_plan.specs.Flags.{bits_from}
use Rattle.session_plan.proofs.flags.flags_of.Given as goal

-- the bits so far, and then those of the names that are left, are all
abbrev pub invariant-loop-value : goal.invariant-loop-value
invariant-loop-value l = bits_from (key_of l.place l.key) l.flags.bits (map view (drop l.value-index l.values)) ≡ bits_from (key_of l.place l.key) 0 (map view l.values)
