use Rattle.std.proofs.Common.{◌≡◌, ◌≤◌, ◌++◌, length, drop, take, true}
use Rattle.dispatcher.specs.InputChannel.Moves.{counted_from}
use Rattle.stream_text.proofs.writing.kept_pointers.move_all.Given as goal

-- the first pointers are moved, and where all of them stay, all is as before
abbrev pub invariant-loop-i : goal.invariant-loop-i
invariant-loop-i l =
    (l.kept ≡ counted_from l.origin (take l.i l.list) ++ drop l.i l.initial.kept) × (l.same ≡ true → l.kept ≡ l.initial.kept)
