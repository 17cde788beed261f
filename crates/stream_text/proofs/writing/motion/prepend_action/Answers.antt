use Rattle.std.specs.Prelude.{codes}
use Rattle.std.proofs.Common.{sym, drop, append_assoc}
use Rattle.stream_text.specs.Spelling.{flag_words, indexed}
use Rattle.stream_text.proofs.writing.motion.prepend_action.Goals as goal

pub returns-in-PointerDown-clause-written : goal.returns-in-PointerDown-clause-written
returns-in-PointerDown-clause-written c =
    let m = c.args.motion.now in
    rw (c.in-PointerDown.is, c.prepend_indexed.ensures.written, c.prepend_flags-at.ensures.written)
    (sym (append_assoc (indexed (codes "POINTER_DOWN") m.index) (flag_words m.flags) (drop c.args.end c.args.line.now)))
