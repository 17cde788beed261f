use Rattle.std.proofs.Common.{arith}
use Rattle.raw_events.proofs.Parts.{both_unended}
use Rattle.raw_events.proofs.piece.keep.Goals as goal

pub returns-clause-kept : goal.returns-clause-kept
returns-clause-kept c = record {
  short = omega (arith, c.len.ensures, c.in-Ok.ensures.len, c.if-len-more-gt-MAX_LINE.false);
  unended = rw c.in-Ok.ensures.items (both_unended c.args.kept.now.items c.args.more.now c.requires.kept.unended c.requires.unended);
  room = omega (arith, c.extend_from_slice.ensures.capacity, c.requires.kept.room);
}
