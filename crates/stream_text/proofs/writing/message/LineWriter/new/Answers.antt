use Rattle.std.proofs.Common.{rules}
use Rattle.stream_text.proofs.Held.{none_moves}
use Rattle.stream_text.proofs.writing.message.LineWriter.new.Goals as goal

pub invariant_of-result : goal.invariant_of-result
invariant_of-result c =
    let none = c.none in (search rules, none_moves 134 none.result.moves none.result.flags none.result.at none.result.front _ none.result.list none.ensures.moves)
