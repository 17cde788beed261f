-- The number at a place is taken out of the list.
use Rattle.std.proofs.Common.{◌≡◌, true, nat_lt, length, slice_get, Some, sym, ◌∙◌, ap}
use Rattle.std.proofs.lemmas.Bool.{lt-ltb}
use Rattle.std.proofs.lemmas.Option.{slice_get_within}
use Rattle.bits32.specs.Set.{members}
use Rattle.bits32.proofs.Laws.{listed_in}
use Rattle.pointers_down.proofs.Sets.{members_of_cleared}
use Rattle.pointers_down.proofs.held.without.Goals as goal

pub clear-requires : goal.clear-requires
clear-requires c = (listed_in 32 c.args.set c.from.result c.in_ok-id.id (sym c.nth.ensures ∙ c.in_ok-id.was)).0

pub returns : goal.returns
returns c =
    let here : slice_get (members c.args.set) c.args.index ≡ Some c.in_ok-id.id = rw c.from.ensures at (sym c.nth.ensures ∙ c.in_ok-id.was) in
    let within : nat_lt c.args.index (length (members c.args.set)) ≡ true =
    lt-ltb _ _ (slice_get_within (members c.args.set) c.args.index c.in_ok-id.id here) in
    rw within (ap Some (members_of_cleared c.in_ok-id.id c.args.set c.clear.new.self c.args.index c.clear.ensures.has here))
