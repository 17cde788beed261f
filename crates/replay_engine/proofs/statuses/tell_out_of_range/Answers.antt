-- The number follows the key.
use Rattle.std.proofs.Common.{◌∙◌, ◌++◌, ℕ, List, codes, ap, subst, to_z-of_z}
use Rattle.std.specs.Fmt.{signed_decimal}
use Rattle.text_output.specs.Passing.{Prints}
use Rattle.replay_engine.proofs.statuses.tell_out_of_range.Goals as goal

pub returns : goal.returns
returns g c =
    subst (λ (xs : List ℕ). Prints g.E.Sink c.args.err.now c.tell_pair.new.err
    ((codes "session: OutOfRange " ++ (c.args.key.now ++ (codes " " ++ xs))) ++ codes "\n"))
    (c.format.ensures.text ∙ ap signed_decimal (to_z-of_z c.ranges.value)) c.tell_pair.ensures
