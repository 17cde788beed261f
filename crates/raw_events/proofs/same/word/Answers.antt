use Rattle.std.proofs.Common.{◌<◌, ℕ, get_or, rules}
use Rattle.raw_events.proofs.BothEnds.{word_is}
use Rattle.raw_events.proofs.same.word.Goals as goal

pub returns : goal.returns
returns c =
    let small : (i : ℕ) → get_or c.args.text.now i 0 < 256 = λ i. search (rules, c.type_inv.text) in
    word_is c.args.text.now c.from_le_bytes.result c.requires small c.from_le_bytes.ensures
