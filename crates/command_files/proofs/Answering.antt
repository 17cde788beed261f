-- How an answer passes from one step to the next.
use Rattle.std.proofs.Common.{List, Option, None, Some}
use Rattle.outside_io.specs.Outside.{Entry}
use Rattle.command_files.specs.declared.refusal.Refusal.{Refusal}
use Rattle.command_files.specs.declared.refusal.Refusal.TheVariants.{Session, Recording, Order, Stream, ReadFailed, NoMemory, TooLong}
use Rattle.command_files.specs.Judged.{IfTold}
use Rattle.command_files.specs.Refused.{Refused}
use Rattle.command_files.specs.RefusalView.{refusal_view}
use Rattle.command_files.specs.Refusing.{RefusesSo}

pub told_map : (told : Option (List Entry)) (P Q : List Entry → Type 0) → ((es : List Entry) → P es → Q es) → IfTold told P → IfTold told Q
told_map None P Q f h = tt
told_map (Some es) P Q f h = f es h

pub told_both : (told : Option (List Entry)) (P Q R : List Entry → Type 0) → ((es : List Entry) → P es → Q es → R es) → IfTold told P → IfTold told Q → IfTold told R
told_both None P Q R f h k = tt
told_both (Some es) P Q R f h k = f es h k

pub so_map : (P Q : Refused → Type 0) (r : Refusal) → ((x : Refused) → P x → Q x) → RefusesSo P r → RefusesSo Q r
so_map P Q (Session e) f h = f (refusal_view (Session e)) h
so_map P Q (Recording e) f h = f (refusal_view (Recording e)) h
so_map P Q (Order e) f h = f (refusal_view (Order e)) h
so_map P Q (Stream e) f h = f (refusal_view (Stream e)) h
so_map P Q (ReadFailed file) f h = absurd h
so_map P Q NoMemory f h = tt
so_map P Q (TooLong what) f h = f (refusal_view (TooLong what)) h
