-- What a handle owns: the judge in its block, or nothing.
use Rattle.std.specs.Prelude.{Option, Some, None}
use base.Fml.{Fml, ftrue}
use base.Stored.{Coded}
use denote.RawPtr.{Ptr}
use Rattle.std.specs.Coded.{coded_option}
use Rattle.std.specs.Box.Ownership.{box_owns}
use Rattle.std.specs.Global.{Global}
use Rattle.std_heap.specs.contracts.GlobalAllocator.TheImpl.{ghosts}
use Rattle.gesture_verifier.specs.contracts.verifier.Verifier.{the_row}

-- a judge and the right to free its block, or nothing
abbrev pub judge_owns : Global → Ptr → Option the_row.Denot → Fml
judge_owns alloc at None = ftrue
judge_owns alloc at (Some told) = box_owns (ghosts.dealloc_token alloc) the_row at told

-- how a proof distinguishes what a cell owns
abbrev pub sent_coded : Coded (Option the_row.Denot)
sent_coded = coded_option the_row.coded
