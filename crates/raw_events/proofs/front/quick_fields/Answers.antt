use Rattle.std.proofs.Common.{◌≡◌, ◌<◌, ◌∷◌, ◌++◌, length, inl, inr, sym, subst, ◌∙◌, ap, arith}
use Rattle.std.proofs.lemmas.List.{take-append-drop, append_assoc, length-append}
use Rattle.raw_events.specs.Line.{known, sent, judged_text}
use Rattle.raw_events.specs.Recording.{line_len}
use Rattle.raw_events.specs.Kept.{TakesLine}
use Rattle.raw_events.proofs.Parts.{both_unended}
use Rattle.raw_events.proofs.Unended.{takes, takes_return, text_whole}
use Rattle.raw_events.proofs.front.quick_fields.Goals as goal

pub returns-clause-line : goal.returns-clause-line
returns-clause-line c =
    let devices = known c.args.devices.now in
    let head = c.split_at.result.0.now in
    let end = c.split_at-2.result.0.now in
    let after = c.in_ok-after.after.now in
    let line = sent c.take_head.new.front.device c.take_head.new.front.moment c.in_ok-fields.fields in
    let taken = c.in_ok-take_head.ensures.taken in
    let front = c.in_ok-take_head.ensures.front.2 in
    let fields = c.in_ok-fields.ensures in
    let whole : head ++ c.split_at.result.1.now ≡ c.args.bytes.now = rw (c.split_at.ensures.front, c.split_at.ensures.back) (take-append-drop _ _) in
    let behind : end ++ c.split_at-2.result.1.now ≡ c.split_at.result.1.now = rw (c.split_at-2.ensures.front, c.split_at-2.ensures.back) (take-append-drop 18 c.split_at.result.1.now) in
    let short : length (head ++ end) < 4096 = omega (arith, length-append head end, c.split_at.ensures.front_len, c.split_at-2.ensures.front_len, c.requires.2.short) in
    let unended : line_len (head ++ end) ≡ length (head ++ end) = both_unended head end (subst (λ text. line_len text ≡ length text) taken front.unended) fields.unended in
    let alone = text_whole head end front.inside (sym taken ∙ front.bracket) fields.digit.0 fields.digit.1 in
    let says : line ≡ judged_text devices (head ++ end) =
    sym (front.says end c.in_ok-fields.fields fields.plain fields.fields) ∙ ap (λ text. judged_text devices (text ++ end)) taken in
    elim c.in_ok-after.ensures as (λ _. TakesLine devices c.args.bytes.now line after) [
      | inl is ↦ takes devices c.args.bytes.now (head ++ end) after line (sym whole ∙ ap (λ rest. head ++ rest) (sym behind ∙ ap (λ rest. end ++ rest) is) ∙ sym (append_assoc head end (10 ∷ after)))
          short unended alone says
      | inr is ↦ takes_return devices c.args.bytes.now (head ++ end) after line (sym whole ∙ ap (λ rest. head ++ rest) (sym behind ∙ ap (λ rest. end ++ rest) is) ∙ sym (append_assoc head end (13 ∷ 10 ∷ after)))
          short unended alone says
    ]
