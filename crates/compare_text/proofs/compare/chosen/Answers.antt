-- One more section.
use Rattle.std.proofs.Common.{map}
use Rattle.compare_text.specs.Indexed.{seen}
use Rattle.compare_text.proofs.Chosen.{chosen_more}
use Rattle.compare_text.proofs.Going.{good_at}
use Rattle.compare_text.proofs.compare.chosen.Goals as goal

pub loop-section-preserved : goal.loop-section-preserved
loop-section-preserved c =
    let good = good_at c.args.sections.now c.loop-section.section-index c.section-item.result c.requires c.loop-section-test.true c.section-item.is in
    record {
      opened = c.in_ok-add_if_of.ensures.opened c.loop-section.invariant.opened good;
      same =
          chosen_more c.args.channel c.args.sections.now c.loop-section.section-index c.section-item.result (map seen c.loop-section.chosen.items)
          (map seen c.add_if_of.new.chosen.items) _ c.loop-section-test.true c.section-item.is c.in_ok-add_if_of.ensures.sections c.loop-section.invariant.same;
    }
