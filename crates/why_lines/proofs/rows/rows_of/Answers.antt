use Rattle.std.proofs.Common.{◌∙◌, arith}
use Rattle.std.proofs.lemmas.List.{length-set}
use Rattle.route_split.specs.Tables.{holds_at}
use Rattle.why_lines.proofs.RowSets.{rows_more}
use Rattle.why_lines.proofs.rows.rows_of.Goals as goal

pub loop-k-preserved : goal.loop-k-preserved
loop-k-preserved c =
    record {
      all = length-set c.loop-k.rows c.loop-k.k c.row_of.result ∙ c.loop-k.invariant.all;
      passed = rows_more (holds_at c.args.touches.now) c.loop-k.rows c.loop-k.k c.row_of.result (omega (arith, c.loop-k-test.true, c.loop-k.invariant.all)) c.loop-k.invariant.passed c.row_of.ensures.sets;
    }
