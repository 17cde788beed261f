-- The first line, where there is one.
use Rattle.std.proofs.Common.{◌≡◌, ◌+◌, ◌<◌, length, take, drop, arith}
use Rattle.std.proofs.lemmas.List.{take_rest, drop-drop}
use Rattle.raw_events.specs.Recording.{line_len}
use Rattle.raw_events.specs.Pieces.{parts}
use Rattle.raw_events.proofs.Parts.{with_line, parts_none, parts_first}
use Rattle.recording_counts.proofs.cut.next_line.Goals as goal

pub returns-in-empty-clause-parts : goal.returns-in-empty-clause-parts
returns-in-empty-clause-parts c =
    let none : line_len c.args.bytes.now ≡ length c.args.bytes.now = omega (arith, c.line_len.ensures.value, c.split_at.ensures.back_len) in
    parts_none c.args.bytes.now none

pub returns-in-len1-up-clause-parts : goal.returns-in-len1-up-clause-parts
returns-in-len1-up-clause-parts c =
    let some : line_len c.args.bytes.now < length c.args.bytes.now = omega (arith, c.line_len.ensures.value, c.split_at.ensures.back_len) in
    let whole : parts c.args.bytes.now ≡ with_line (take c.line_len.result c.args.bytes.now) (parts (drop (c.line_len.result + 1) c.args.bytes.now)) =
    rw c.line_len.ensures.value (parts_first c.args.bytes.now some) in
    rw (take_rest c.split_at.result.1.now 1, c.split_at.ensures.front, c.split_at.ensures.back, drop-drop 1 c.line_len.result c.args.bytes.now) whole
