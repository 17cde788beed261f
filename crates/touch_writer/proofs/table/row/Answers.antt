-- A row has an entry for each number of new contacts that are left.
use Rattle.std.specs.Prelude.{◌<◌, length, ◌∷◌}
use Rattle.std.proofs.Common.{◌∙◌, arith}
use Rattle.std.proofs.lemmas.List.{length-set}
use Rattle.touch_writer.proofs.Entries.{row_set, blanks_set}
use Rattle.touch_writer.proofs.table.row.Goals as goal

pub loop-left-preserved : goal.loop-left-preserved
loop-left-preserved c =
    let inside : c.loop-left.left < length c.loop-left.row = omega (arith, c.loop-left.invariant.whole, c.loop-left-test.true, c.requires.few) in
    record {
      filled = λ behind room row.
          row_set c.loop-left.row c.entry.result c.args.case.now.want.now c.args.case.now.current c.args.slot (c.args.place.now ∷ behind) c.args.case.now.news.now c.args.case.now.next c.loop-left.left
          inside (c.loop-left.invariant.filled behind room row) (c.entry.ensures.best behind room row);
      blanks = blanks_set c.loop-left.row c.entry.result c.loop-left.left c.loop-left.invariant.blanks;
      whole = length-set c.loop-left.row c.loop-left.left c.entry.result ∙ c.loop-left.invariant.whole;
    }

pub returns-clause-best : goal.returns-clause-best
returns-clause-best c = λ behind room row left lt. c.loop-left.invariant.filled behind room row left (omega (arith, lt, c.loop-left-test.false))
