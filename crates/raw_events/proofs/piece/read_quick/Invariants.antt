use Rattle.std.proofs.Common.{◌≡◌, ◌≤◌, length, take}
use Rattle.raw_events.specs.Line.{known}
use Rattle.raw_events.specs.Front.{FrontSays}
use Rattle.raw_events.specs.Pieces.{parts, tell}
use Rattle.raw_events.specs.Kept.{behind}
use Rattle.raw_events.proofs.piece.read_quick.Given as goal

abbrev pub invariant-lines : goal.invariant-lines
invariant-lines l = record {
  told : behind l.events.items (tell (known l.devices) l.number (parts l.rest).ended) ≡ behind l.fn.events.items (tell (known l.devices) l.fn.number (parts l.bytes).ended);
  begun : (parts l.rest).begun ≡ (parts l.bytes).begun;
  front : FrontSays (known l.devices) l.front.to_point.now l.front.seconds l.front.part.now l.front.device l.front.head.now l.front.moment;
  before : take (length l.fn.events.items) l.events.items ≡ l.fn.events.items;
  within : length l.rest ≤ length l.bytes;
}

abbrev pub decreases-lines : goal.decreases-lines
decreases-lines l = length l.rest
