use Rattle.std.proofs.Common.{◌≡◌, ◌∷◌, ◌+◌, [], take, drop, arith, sym, ◌∙◌, true}
use Rattle.std.proofs.lemmas.List.{take_rest, drop-drop, drop_all, nil_from_length}
use Rattle.text_lines.specs.Lines.{lines_of}
use Rattle.text_lines.proofs.Fronts.{first_line, some, some_left}
use Rattle.text_lines.proofs.lines.first_line.Goals as goal

pub returns-in-empty-clause-lines : goal.returns-in-empty-clause-lines
returns-in-empty-clause-lines c =
    let none : c.split_at.result.1.now ≡ [] = nil_from_length c.split_at.result.1.now (omega arith) in
    let left : drop c.line_len.result c.args.bytes.now ≡ [] = sym c.split_at.ensures.back ∙ none in
    let past : drop (c.line_len.result + 1) c.args.bytes.now ≡ [] = drop_all (c.line_len.result + 1) c.args.bytes.now (omega arith) in
    let whole : lines_of c.args.bytes.now ≡ (take c.line_len.result c.args.bytes.now, some (drop c.line_len.result c.args.bytes.now)) ∷ lines_of (drop (c.line_len.result + 1) c.args.bytes.now) =
    rw c.line_len.ensures.value (first_line c.args.bytes.now c.requires) in
    rw (none, c.split_at.ensures.front) (rw (past, left) at whole)

pub returns-in-len1-up-clause-lines : goal.returns-in-len1-up-clause-lines
returns-in-len1-up-clause-lines c =
    let left : some (drop c.line_len.result c.args.bytes.now) ≡ true = rw (← c.split_at.ensures.back) (some_left c.split_at.result.1.now c.in-len1-up.len_at_least) in
    let whole : lines_of c.args.bytes.now ≡ (take c.line_len.result c.args.bytes.now, some (drop c.line_len.result c.args.bytes.now)) ∷ lines_of (drop (c.line_len.result + 1) c.args.bytes.now) =
    rw c.line_len.ensures.value (first_line c.args.bytes.now c.requires) in
    rw (take_rest c.split_at.result.1.now 1, c.split_at.ensures.front, c.split_at.ensures.back, drop-drop 1 c.line_len.result c.args.bytes.now) (rw left at whole)
