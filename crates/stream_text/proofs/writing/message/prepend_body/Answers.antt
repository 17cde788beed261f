use Rattle.std.proofs.Common.{arith}
use Rattle.input_types.specs.declared.message.Body.TheVariants.{Key}
use Rattle.stream_text.specs.Spelling.{body}
use Rattle.stream_text.proofs.Held.{still_held}
use Rattle.stream_text.proofs.writing.message.prepend_body.Goals as goal

pub returns-in-Key-clause-holds : goal.returns-in-Key-clause-holds
returns-in-Key-clause-holds c =
    let none = c.put_none-at in
    let front = c.prepend_key_message in
    still_held front.result none.result none.new.self.at front.new.line none.new.line (body (Key c.in-Key.key)) none.new.self.list front.array_long none.array_long
    front.ensures.within.0 (omega (arith, none.ensures.at, none.ensures.kept)) front.ensures.written none.ensures.holds

pub returns-after-has-clause-holds : goal.returns-after-has-clause-holds
returns-after-has-clause-holds c =
    let none = c.put_none-at-in-Focus in
    let front = c.prepend_word in
    still_held front.result none.result none.new.self.at front.new.line none.new.line c.if-has.prepend_word.now none.new.self.list front.array_long none.array_long
    (omega (arith, front.ensures.within)) (omega (arith, none.ensures.at, none.ensures.kept)) front.ensures.written none.ensures.holds
