use Rattle.std.specs.Prelude.{◌≡◌, ◌+◌, ◌*◌, ◌≤◌, length, drop}
use Rattle.touch_writer.specs.Packet.{last_slot, others}
use Rattle.touch_writer.specs.Draft.{with_changes}
use Rattle.touch_writer.proofs.packet.say_others.Given as goal

-- what is said so far, with what is left, is all
abbrev pub invariant-loop-slot : goal.invariant-loop-slot
invariant-loop-slot l = record {
  events : with_changes l.draft (others l.current l.slot (drop l.slot l.old) (drop l.slot l.new)) ≡ with_changes l.initial.draft (others l.current 0 l.old l.new);
  last : last_slot l.last l.current l.slot (drop l.slot l.old) (drop l.slot l.new) ≡ last_slot l.current l.current 0 l.old l.new;
  room : length l.draft.events ≤ length l.initial.draft.events + 4 * l.slot;
}
