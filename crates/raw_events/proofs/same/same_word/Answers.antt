use Rattle.std.proofs.Common.{◌≡◌, take, sym, ap, ◌∙◌, eqb-true}
use Rattle.std.specs.Int.{to_le_bytes, w64}
use Rattle.raw_events.proofs.same.same_word.Goals as goal

pub returns : goal.returns
returns c = λ same.
    let words : to_le_bytes w64 c.word.result ≡ to_le_bytes w64 c.word-2.result = ap (to_le_bytes w64) (eqb-true c.word.result c.word-2.result same) in
    ap (take 8) (sym c.split_at.ensures.back) ∙ sym c.word.ensures ∙ words ∙ c.word-2.ensures ∙ ap (take 8) c.split_at-2.ensures.back
