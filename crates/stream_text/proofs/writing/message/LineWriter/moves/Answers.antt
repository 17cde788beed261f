use Rattle.stream_text.specs.Spelling.{numbered}
use Rattle.stream_text.proofs.Held.{still_held, still_moves}
use Rattle.stream_text.proofs.writing.message.LineWriter.moves.Goals as goal

pub invariant_of-self : goal.invariant_of-self
invariant_of-self c =
    let body = c.prepend_moved-at in
    let kept = body.new.kept in
    let front = c.prepend_numbered-at in
    let text = numbered c.args.seq c.args.moment in (
      still_held front.result body.result kept.at front.new.line body.new.line text kept.list front.ensures.long body.ensures.long
          front.ensures.within body.ensures.within.1 front.ensures.written body.ensures.holds,
      still_moves 134 front.result body.result kept.at kept.front kept.moves kept.flags front.new.line body.new.line text kept.list front.ensures.long body.ensures.long
          body.ensures.within.0 front.ensures.within body.ensures.holds.1 front.ensures.written body.ensures.moves,
    )
