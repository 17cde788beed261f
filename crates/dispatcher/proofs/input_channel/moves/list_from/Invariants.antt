use Rattle.std.proofs.Common.{◌≡◌, take}
use Rattle.dispatcher.specs.InputChannel.Moves.{counted_from}
use Rattle.dispatcher.proofs.input_channel.moves.list_from.Given as goal

-- the pointers so far, counted from the origin
abbrev pub invariant-loop-pointer : goal.invariant-loop-pointer
invariant-loop-pointer l = l.listed ≡ counted_from l.origin (take l.pointer-index l.pointers)
