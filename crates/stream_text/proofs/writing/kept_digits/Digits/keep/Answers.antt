use Rattle.std.proofs.Common.{◌≡◌, ◌+◌, ◌-◌, take, drop, ap, ◌∙◌, arith}
use Rattle.stream_text.proofs.Places.{part_end}
use Rattle.stream_text.proofs.writing.kept_digits.Digits.keep.Goals as goal

pub returns : goal.returns
returns c =
    let at = c.args.at in
    let end = c.args.end in
    let n = end - at in
    let m = 16 - n in
    let long : end - (end - 16) ≡ m + n = omega arith in
    let from : end - 16 + m ≡ at = omega arith in
    rw (c.copy_from_slice.ensures.after, long) (part_end (end - 16) m n c.args.line.now ∙ ap (λ i. take n (drop i c.args.line.now)) from)
