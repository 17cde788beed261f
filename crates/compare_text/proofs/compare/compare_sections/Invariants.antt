use Rattle.std.proofs.Common.{◌≡◌, ◌+◌, ◌≤◌, [], drop, length, map}
use Rattle.compare_text.specs.Indexed.{count_of, seen}
use Rattle.compare_text.specs.Measured.{measure}
use Rattle.compare_text.specs.Pairing.{left_from}
use Rattle.compare_text.proofs.Going.{told}
use Rattle.compare_text.proofs.compare.compare_sections.Given as goal

-- what the remaining sections of both files say, behind those so far, is what all say
abbrev pub invariant-loop-section : goal.invariant-loop-section
invariant-loop-section l = record {
  length_is : length l.from ≡ 65;
  room : l.measure.points + count_of (map seen (drop l.section-index l.want)) ≤ count_of (map seen l.want);
  same : told l.rule (measure []) (map seen l.want) (map seen l.got)
      ≡ told l.rule l.measure (map seen (drop l.section-index l.want)) (left_from 0 l.from (map seen l.got));
}
