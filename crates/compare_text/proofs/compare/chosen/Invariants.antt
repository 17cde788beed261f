use Rattle.std.proofs.Common.{◌≡◌, ◌++◌, true, drop, map}
use Rattle.compare_text.specs.Indexed.{are_opened, seen}
use Rattle.compare_text.specs.Pairs.{of_channel, unnamed}
use Rattle.compare_text.proofs.compare.chosen.Given as goal

-- those so far, and what is chosen of the others, are what is chosen of all
abbrev pub invariant-loop-section : goal.invariant-loop-section
invariant-loop-section l = record {
  opened : are_opened l.chosen.items ≡ true;
  same : map seen l.chosen.items ++ map unnamed (of_channel l.channel (map seen (drop l.section-index l.sections)))
      ≡ map unnamed (of_channel l.channel (map seen l.sections));
}
