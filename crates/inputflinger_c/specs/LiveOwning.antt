-- What a handle owns: the service in its block, or nothing.
use Rattle.std.specs.Prelude.{Option, Some, None}
use base.Fml.{Fml, ftrue}
use base.Stored.{Coded}
use denote.RawPtr.{Ptr}
use Rattle.std.specs.Coded.{coded_option}
use Rattle.std.specs.Box.Ownership.{box_owns}
use Rattle.std.specs.Global.{Global}
use Rattle.std_heap.specs.contracts.GlobalAllocator.TheImpl.{ghosts}
use Rattle.live_input.specs.contracts.limit.Limited.{the_row}

-- a service and the right to free its block, or nothing
abbrev pub live_owns : Global → Ptr → Option the_row.Denot → Fml
live_owns alloc at None = ftrue
live_owns alloc at (Some state) = box_owns (ghosts.dealloc_token alloc) the_row at state

-- how a proof distinguishes what a cell owns
abbrev pub live_coded : Coded (Option the_row.Denot)
live_coded = coded_option the_row.coded
