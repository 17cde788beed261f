use Rattle.std.specs.Prelude.{◌≡◌, ◌+◌, ◌≤◌, ◌++◌, length, take, drop}
use Rattle.touch_writer.specs.Choice.{placed}
use Rattle.touch_writer.specs.Search.{chosen}
use Rattle.touch_writer.proofs.table.placed.Given as goal

-- the slots so far, with those that are left, are all
abbrev pub invariant-loop-slot : goal.invariant-loop-slot
invariant-loop-slot l = record {
  all : take l.slot l.after ++ placed l.case.want.now (drop l.slot l.places) (chosen l.slots l.slot (drop l.slot l.places)) (drop l.come l.case.news.now) (l.case.next + l.come)
      ≡ placed l.case.want.now l.places (chosen l.slots 0 l.places) l.case.news.now l.case.next;
  come : l.come ≤ length l.case.news.now;
  whole : length l.after ≡ 16;
}
