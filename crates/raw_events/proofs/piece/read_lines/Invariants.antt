use Rattle.std.proofs.Common.{◌≡◌, length, take}
use Rattle.std.specs.Prelude.{IfSome}
use Rattle.raw_events.specs.Line.{known}
use Rattle.raw_events.specs.Front.{FrontSays}
use Rattle.raw_events.specs.Pieces.{parts, tell}
use Rattle.raw_events.specs.Kept.{behind}
use Rattle.raw_events.proofs.piece.read_lines.Given as goal

abbrev pub invariant-lines : goal.invariant-lines
invariant-lines l = record {
  told : behind l.events.items (tell (known l.devices) l.number (parts l.rest).ended) ≡ behind l.fn.events.items (tell (known l.devices) l.fn.number (parts l.bytes).ended);
  begun : (parts l.rest).begun ≡ (parts l.bytes).begun;
  front : IfSome l.front (λ f. FrontSays (known l.devices) f.to_point.now f.seconds f.part.now f.device f.head.now f.moment);
  before : take (length l.fn.events.items) l.events.items ≡ l.fn.events.items;
}

abbrev pub decreases-lines : goal.decreases-lines
decreases-lines l = length l.rest
