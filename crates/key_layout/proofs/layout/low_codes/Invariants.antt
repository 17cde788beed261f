use Rattle.std.specs.Prelude.{◌≡◌, ℕ, ◌<◌, length, get_or}
use Rattle.key_layout.specs.Layout.{code_at}
use Rattle.key_layout.proofs.layout.low_codes.Given as goal

-- the key codes so far stand at their places
abbrev pub invariant-loop-scan : goal.invariant-loop-scan
invariant-loop-scan l = record {
  whole : length l.low ≡ 256;
  each : (j : ℕ) → j < l.scan → get_or l.low j 0 ≡ code_at l.codes.entries j;
}
