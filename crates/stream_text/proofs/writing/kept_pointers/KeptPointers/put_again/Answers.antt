use Rattle.std.proofs.Common.{◌++◌, length, drop, ap, ◌∙◌, arith}
use Rattle.stream_text.specs.Spelling.{pointers}
use Rattle.stream_text.proofs.Places.{newline_put}
use Rattle.stream_text.proofs.writing.kept_pointers.KeptPointers.put_again.Goals as goal

pub returns-clause-holds : goal.returns-clause-holds
returns-clause-holds c =
    let word = c.prepend_word-at in
    let same = ap length c.as_slice.ensures.value in (
      omega arith,
      omega arith,
      omega arith,
      c.prepend_pointers-at.ensures.written
          ∙ ap (λ ps. pointers ps ++ drop word.result word.new.line) c.as_slice.ensures.value
          ∙ ap (λ t. pointers c.args.self.now.list ++ t) (newline_put word.new.line c.args.line.now word.result c.told-line word.ensures.written),
    )
