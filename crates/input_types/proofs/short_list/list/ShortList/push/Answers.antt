-- The element goes into the first place that is not in use.
use Rattle.std.specs.Prelude.{◌<◌, length}
use Rattle.std.proofs.Common.{arith, ap}
use Rattle.input_types.specs.ShortList.Inverse.{length_used}
use Rattle.input_types.proofs.ShortList.Putting.{table_put}
use Rattle.input_types.proofs.short_list.list.ShortList.push.Goals as goal

pub invariant_of-self : goal.invariant_of-self
invariant_of-self g c =
    let room : c.self.inside.used < 16 =
    omega (arith, length_used g.T.Blank.nothing c.self.inside.items c.self.inside.used c.self.invariant, ap (λ xs. length xs) c.self.view_is, c.requires) in
    rw c.from.ensures (table_put g.T.Blank.nothing c.self.inside.items c.self.inside.used c.args.item c.self.invariant room)
