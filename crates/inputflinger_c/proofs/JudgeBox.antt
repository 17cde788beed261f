-- The allocator of a judge's box, and the types at which the box is made again.
use mathlib.Core.Path.{◌≡◌, refl}
use mathlib.Core.List.{[], ◌∷◌}
use mir.Syntax.{impl, tcons, tnil, dnil}
use mir.Raw.{raw}
use denote.Exit.{no}
use denote.RattleType.{RattleType}
use denote.Param.{layout, arg}
use denote.Param.Laws.{Laws, arg_laws}
use Rattle.std.specs.Prelude.{Option, Some, None, IsSome}
use Rattle.std.proofs.lemmas.Bool.{false≢true}
use Rattle.core.proofs.alloc.Calls.{Al}
use Rattle.std_heap.specs.contracts.Global as Heap
use Rattle.std_heap.specs.contracts.GlobalAllocator.TheImpl.{ghosts, dict}
use Rattle.std_heap.proofs.Global.TheLaws as heap

-- the allocator, whose own drop does nothing
abbrev pub global : Al
global = record {
  row = Heap.the_row;
  laws = heap.the_row_laws;
  g = ghosts;
  d = dict;
  drops = impl ("inputflinger_c::Destruct++none::drop" ∷ []) (tcons (raw (layout Heap.the_row)) tnil) dnil;
}

-- the types that a call of `from_raw` is made at: its two arguments are spent
abbrev pub spent : (R : RattleType) → RattleType
spent R = arg (raw (layout R)) no R

abbrev pub spent_laws : (R : RattleType) → Laws R → raw (raw (layout R)) ≡ raw (layout R) → Laws (spent R)
spent_laws R laws is = arg_laws (raw (layout R)) no R laws is

-- an optional value that is there is Some
pub some_of : {A : Type 0} (o : Option A) → IsSome o → (x : A) × (o ≡ Some x)
some_of None is = absurd (false≢true is)
some_of (Some x) is = (x, refl)
