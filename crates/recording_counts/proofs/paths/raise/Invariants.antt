use Rattle.std.proofs.Common.{◌≡◌, ℕ, ◌<◌, ◌≤◌, length, map, take, get_or, []}
use Rattle.std.specs.Prelude.{if◌then◌else◌}
use Rattle.std.specs.Str.{bytes_eq}
use Rattle.recording_counts.specs.Counted.{risen}
use Rattle.recording_counts.specs.Paths.{is_among}
use Rattle.recording_counts.proofs.paths.raise.Given as goal

abbrev pub invariant-loop-i : goal.invariant-loop-i
invariant-loop-i l = record {
  len : length l.counts ≡ 8;
  found : l.found ≡ is_among l.path (take l.i (map (λ p. p.items) l.paths));
  done : (j : ℕ) → j < l.i → get_or l.counts j 0 ≡ (if bytes_eq l.path (get_or (map (λ p. p.items) l.paths) j []) then risen (get_or l.fn.counts j 0) else get_or l.fn.counts j 0);
  left : (j : ℕ) → l.i ≤ j → get_or l.counts j 0 ≡ get_or l.fn.counts j 0;
}
