use Rattle.std.proofs.Common.{◌≡◌, ◌+◌, ◌∷◌, ◌++◌, [], Some, None, sym, subst, ◌∙◌}
use Rattle.std.proofs.lemmas.Result.{err_from_is_err_and}
use Rattle.stream_text.specs.StreamAnswer.{channel_sent}
use Rattle.stream_text.specs.StreamFile.{events_of, streams_in}
use Rattle.batch_text.specs.Sections.{ReadsSection}
use Rattle.batch_text.proofs.File.{FileSoFar, file_other, file_refused, file_section, file_start, section_numbers}
use Rattle.batch_text.proofs.Numbering.{numbers_of}
use Rattle.batch_text.proofs.text.batch_text.Goals as goal

pub lines-init : goal.lines-init
lines-init c =
    let all = events_of c.args.bytes.now in
    let left = c.next_line.new.lines.events in (
      [],
      subst (λ text. FileSoFar c.args.frame [] (streams_in all) c.in_ok-line.line left text) (sym c.new-text.ensures.items)
          (file_start c.args.frame all c.in_ok-line.line left (c.in-Ok.ensures.ok ∙ c.in_ok-line.ensures.ok) (numbers_of c.args.bytes.now)),
    )

pub returns-in_err-line-2-clause-err : goal.returns-in_err-line-2-clause-err
returns-in_err-line-2-clause-err c =
    let (front, f) = c.lines.invariant in
    let all = streams_in (events_of c.args.bytes.now) in
    let left = c.lines.lines.events in
    let here = subst (λ line. FileSoFar c.args.frame front all line left c.lines.text.items) c.in-Some.is f in
    let told : channel_sent c.in-Some.says ≡ Some c.in-Some-channel_of.id = sym c.channel_of.ensures ∙ c.in-Some-channel_of.is in
    let (error, is, same) = err_from_is_err_and c.from_residual-in_err-line-2.result c.from_residual-in_err-line-2.ensures.1 in
    let numbers = section_numbers c.args.frame front all c.in-Some.field-0-0 c.in-Some.says left c.lines.text.items here in
    rw (is, same)
    (file_refused c.args.frame front all c.in-Some.field-0-0 c.in-Some-channel_of.id c.in-Some.says left c.lines.text.items c.in_err-line-2.field-0.0 here told
    (c.in_err-line-2.ensures.err (c.in-Some.field-0-0 + 1) numbers))

pub lines-preserved-in-Some-channel_of : goal.lines-preserved-in-Some-channel_of
lines-preserved-in-Some-channel_of c =
    let (front, f) = c.lines.invariant in
    let n = c.in-Some.field-0-0 in
    let id = c.in-Some-channel_of.id in
    let all = streams_in (events_of c.args.bytes.now) in
    let left = c.lines.lines.events in
    let new = c.section.new.lines.events in
    let text = c.section.new.text.items in
    let here = subst (λ line. FileSoFar c.args.frame front all line left c.lines.text.items) c.in-Some.is f in
    let told : channel_sent c.in-Some.says ≡ Some id = sym c.channel_of.ensures ∙ c.in-Some-channel_of.is in
    let reads = subst (λ before. ReadsSection c.args.frame left new before text c.in_ok-line-2.line) c.in_ok-add_channel.ensures c.in_ok-line-2.ensures.ok in (
      front ++ record { id = id; first_line = n + 1; messages = reads.messages } ∷ [],
      file_section c.args.frame front all n id c.in-Some.says c.in_ok-line-2.line left new c.lines.text.items text here told reads,
    )

pub lines-preserved : goal.lines-preserved
lines-preserved c =
    let (front, f) = c.lines.invariant in
    let all = streams_in (events_of c.args.bytes.now) in
    let left = c.lines.lines.events in
    let here = subst (λ line. FileSoFar c.args.frame front all line left c.lines.text.items) c.in-Some.is f in
    let none : channel_sent c.in-Some.says ≡ None = sym c.channel_of.ensures ∙ c.in_default-channel_of.is in (
      front,
      file_other c.args.frame front all c.in-Some.field-0-0 c.in-Some.says c.in_ok-line-3.line left c.next_line-in_default-channel_of.new.lines.events c.lines.text.items
          here
          none
          c.in_ok-line-3.ensures.ok,
    )
