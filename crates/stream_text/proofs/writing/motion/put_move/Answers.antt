use Rattle.std.proofs.Common.{◌≡◌, ◌≤◌, [], ◌∷◌, ◌++◌, codes, decimal, drop, sym, ◌∙◌, subst, arith}
use Rattle.dispatcher.specs.InputChannel.Moves.{move_of}
use Rattle.stream_text.specs.Spelling.{flag_words, motion}
use Rattle.stream_text.proofs.Held.{move_put, still_held}
use Rattle.stream_text.proofs.writing.motion.put_move.Goals as goal

pub returns-clause-holds : goal.returns-clause-holds
returns-clause-holds c =
    let kept = c.args.kept.now in
    let marks = c.prepend_any_flags-at in
    let word = c.prepend_word-at in
    let front = c.prepend_device-at in
    still_held front.result word.result kept.at front.new.line word.new.line (codes "motion " ++ decimal c.get.result ++ codes " ") kept.list front.array_long word.array_long
    front.ensures.within.0 (omega (arith, word.ensures.within, marks.ensures.within.0)) front.ensures.written
    (still_held word.result marks.result kept.at word.new.line marks.new.line (codes "MOVE") kept.list word.array_long marks.array_long
    (omega (arith, word.ensures.within)) marks.ensures.within.0 word.ensures.written
    (still_held marks.result kept.at kept.at marks.new.line c.args.line.now (flag_words c.args.flags) kept.list marks.array_long c.told-line
    marks.ensures.within.0 (omega arith) marks.ensures.written c.requires))

pub returns-clause-moves : goal.returns-clause-moves
returns-clause-moves c =
    let kept = c.args.kept.now in
    let marks = c.prepend_any_flags-at in
    let word = c.prepend_word-at in
    let front = c.prepend_device-at in λ some. (
      omega arith,
      omega (arith, word.ensures.within, marks.ensures.within.0, front.ensures.within.0),
      subst (λ d. drop front.result front.new.line ≡ motion (move_of d c.args.flags kept.list) ++ 10 ∷ []) (c.get.ensures.value ∙ sym c.get-kept.ensures.value)
          (move_put c.get.result c.args.flags kept.at front.result word.result marks.result front.new.line word.new.line marks.new.line c.args.line.now kept.list
          front.ensures.written word.ensures.written marks.ensures.written c.requires),
    )

pub returns-clause-written : goal.returns-clause-written
returns-clause-written c =
    let kept = c.args.kept.now in
    let marks = c.prepend_any_flags-at in
    let word = c.prepend_word-at in
    let front = c.prepend_device-at in
    rw c.get.ensures.value at
    (move_put c.get.result c.args.flags kept.at front.result word.result marks.result front.new.line word.new.line marks.new.line c.args.line.now kept.list
    front.ensures.written word.ensures.written marks.ensures.written c.requires)
