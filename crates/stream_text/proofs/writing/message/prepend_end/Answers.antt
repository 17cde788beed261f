use Rattle.stream_text.proofs.Held.{none_moves}
use Rattle.stream_text.proofs.writing.message.prepend_end.Goals as goal

pub returns-clause-moves : goal.returns-clause-moves
returns-clause-moves c =
    let other = c.prepend_body in
    let kept = other.new.kept in
    none_moves other.result kept.moves kept.flags kept.at kept.front other.new.line kept.list other.ensures.moves
