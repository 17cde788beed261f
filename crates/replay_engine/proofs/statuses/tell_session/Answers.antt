-- The line of each refusal.
use Rattle.std.proofs.Common.{◌++◌, ℤ, codes, rules, subst, SFits, to_z-of_z, w64}
use Rattle.std.specs.Fmt.{signed_decimal}
use Rattle.text_output.specs.Passing.{Prints}
use Rattle.replay_engine.proofs.statuses.tell_session.Goals as goal

pub returns-in-OutOfRange : goal.returns-in-OutOfRange
returns-in-OutOfRange g c =
    let key = c.as_str-in-OutOfRange.result.now in
    let fits : SFits w64 c.in-OutOfRange.value = search rules in
    rw (c.in-OutOfRange.is, ← c.as_str-in-OutOfRange.ensures.value)
    (subst (λ (z : ℤ). Prints g.E.Sink c.args.err.now c.tell_out_of_range.new.err
    ((codes "session: OutOfRange " ++ (key ++ (codes " " ++ signed_decimal z))) ++ codes "\n"))
    (to_z-of_z fits) c.tell_out_of_range.ensures)

pub returns-in-BadLayout : goal.returns-in-BadLayout
returns-in-BadLayout g c = rw (c.in-BadLayout.is, ← c.from.ensures, ← c.line_of.ensures) c.tell_numbers.ensures
