-- What a layout's text says; only its first refused line is reported.
use Rattle.std.proofs.Common.{Err, subst}
use Rattle.key_layout.specs.Layout.{Answers, Codes, layout_of}
use Rattle.plain_calls.proofs.ReadLayouts.{read_no_text, read_text}
use Rattle.plain_calls.proofs.layouts.read_layout.Goals as goal

pub returns-in_default : goal.returns-in_default
returns-in_default c = read_no_text c.args.bytes.now c.in_default.ensures.cases.0

pub returns-in-Ok-read : goal.returns-in-Ok-read
returns-in-Ok-read c =
    let text = c.in-Ok.ensures.cases in read_text c.args.bytes.now c.in-Ok.text.now _ text.0 text.1 c.in-Ok-read.ensures

pub returns-in-Err-BadLine : goal.returns-in-Err-BadLine
returns-in-Err-BadLine c =
    let text = c.in-Ok.ensures.cases in
    read_text c.args.bytes.now c.in-Ok.text.now _ text.0 text.1
    (subst (λ e. Answers {X = Codes} {Y = Codes} (λ l. l) (Err e) (layout_of c.in-Ok.text.now)) c.in-Err-BadLine.field-0-is c.in-Err-BadLine.ensures)

pub returns-in-Err-BadName : goal.returns-in-Err-BadName
returns-in-Err-BadName c =
    let text = c.in-Ok.ensures.cases in
    read_text c.args.bytes.now c.in-Ok.text.now _ text.0 text.1
    (subst (λ e. Answers {X = Codes} {Y = Codes} (λ l. l) (Err e) (layout_of c.in-Ok.text.now)) c.in-Err-BadName.field-0-is c.in-Err-BadName.ensures)

pub returns-in-Err-Twice : goal.returns-in-Err-Twice
returns-in-Err-Twice c =
    let text = c.in-Ok.ensures.cases in
    read_text c.args.bytes.now c.in-Ok.text.now _ text.0 text.1
    (subst (λ e. Answers {X = Codes} {Y = Codes} (λ l. l) (Err e) (layout_of c.in-Ok.text.now)) c.in-Err-Twice.field-0-is c.in-Err-Twice.ensures)
