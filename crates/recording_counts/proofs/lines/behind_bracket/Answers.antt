-- A search finds the first bracket.
use Rattle.std.proofs.Common.{◌+◌, ℕ, drop, ap, sym, ◌∙◌, arith}
use Rattle.std.proofs.Math.ListN.{drop_of_length-le}
use Rattle.recording_counts.proofs.Bytes.{first_place, no_place}
use Rattle.recording_counts.proofs.lines.behind_bracket.Goals as goal

pub returns-in-Some : goal.returns-in-Some
returns-in-Some c = c.split_at.ensures.back ∙ ap (λ (n : ℕ). drop (n + 1) c.args.bytes.now) (first_place 93 c.args.bytes.now c.in-Some.place c.in-Some.ensures)

pub returns-in-None : goal.returns-in-None
returns-in-None c =
    let all = no_place 93 c.args.bytes.now c.in-None.ensures in
    sym (drop_of_length-le c.args.bytes.now (omega (arith, all)))
