use Rattle.std.proofs.Common.{◌≡◌, ℕ, ◌++◌, List, drop}
use Rattle.std.specs.Prelude.{flat_map}
use Rattle.recording_counts.specs.Paths.{PathsStandFor, times}
use Rattle.inspect_text.specs.Lines.{path_line}
use Rattle.inspect_text.proofs.lines.add_paths.Given as goal

-- what is written, with the paths that are left, is all
abbrev pub invariant-loop-place : goal.invariant-loop-place
invariant-loop-place l =
    (past : List (List ℕ)) → PathsStandFor past l.paths
    → l.text.items ++ flat_map (λ p. path_line p (times p past)) (drop l.place l.paths.paths)
    ≡ l.initial.text.items ++ flat_map (λ p. path_line p (times p past)) l.paths.paths
