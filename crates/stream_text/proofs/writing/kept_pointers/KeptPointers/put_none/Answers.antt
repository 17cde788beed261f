use Rattle.stream_text.proofs.Places.{newline_put, none_held}
use Rattle.stream_text.proofs.writing.kept_pointers.KeptPointers.put_none.Goals as goal

pub returns-clause-holds : goal.returns-clause-holds
returns-clause-holds c =
    let word = c.prepend_word in
    none_held word.new.line c.none.result.list word.result c.none.result.at c.none.ensures.list c.none.ensures.at word.ensures.within
    (newline_put word.new.line c.args.line.now word.result c.told-line word.ensures.written)
