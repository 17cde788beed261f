use Rattle.std.proofs.Common.{◌≡◌, ◌+◌, ◌≤◌, ℕ, List, length, Ok, Err}
use Rattle.stream_text.specs.StreamFile.{Event}
use Rattle.compare_text.specs.Indexed.{file_sections}
use Rattle.compare_text.proofs.Tied.{Counted}
use Rattle.compare_text.proofs.sections.Sections.read.Given as goal

-- the sections so far and those that the lines that are left begin are those of the file
abbrev pub invariant-lines : goal.invariant-lines
invariant-lines l = record {
  good : (es : List Event) → l.lines.events ≡ Ok es → Counted l.bytes l.sections.items l.messages es;
  bad : (line : ℕ) → l.lines.events ≡ Err line → file_sections l.bytes ≡ Err line;
  few : l.messages + l.lines.left ≤ length l.bytes + 1;
}

abbrev pub decreases-lines : goal.decreases-lines
decreases-lines l = l.lines.left
