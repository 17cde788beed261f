use Rattle.std.proofs.Common.{◌≡◌, ◌++◌, drop}
use Rattle.std.specs.Prelude.{flat_map}
use Rattle.why_text.specs.Lines.{window_words}
use Rattle.why_lines.proofs.lines.snapshot.add_windows.Given as goal

-- what is written, with the windows that are left, is all
abbrev pub invariant-loop-window : goal.invariant-loop-window
invariant-loop-window l = l.text.items ++ flat_map window_words (drop l.window-index l.windows) ≡ l.initial.text.items ++ flat_map window_words l.windows
