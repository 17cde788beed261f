use Rattle.std.specs.Prelude.{◌<◌, length}
use Rattle.std.proofs.Common.{arith, ap, ◌∙◌, set}
use Rattle.std.proofs.Math.Seq.{take-set-lt}
use Rattle.input_types.specs.ShortList.Inverse.{length_used}
use Rattle.input_types.proofs.ShortList.Putting.{table_set}
use Rattle.input_types.proofs.short_list.list.ShortList.set.Goals as goal

pub invariant_of-self : goal.invariant_of-self
invariant_of-self g c =
    let used = length_used g.T.Blank.nothing c.self.inside.items c.self.inside.used c.self.invariant in
    let below : c.args.i < c.self.inside.used = omega (arith, used, ap (λ xs. length xs) c.self.view_is, c.if-i-len.true, c.len.ensures.value) in
    table_set g.T.Blank.nothing c.self.inside.items c.self.inside.used c.args.i c.args.item c.self.invariant below

pub returns-then-i-len : goal.returns-then-i-len
returns-then-i-len g c =
    let used = length_used g.T.Blank.nothing c.self.inside.items c.self.inside.used c.self.invariant in
    let below : c.args.i < c.self.inside.used = omega (arith, used, ap (λ xs. length xs) c.self.view_is, c.if-i-len.true, c.len.ensures.value) in
    take-set-lt c.self.inside.used c.self.inside.items c.args.i c.args.item below ∙ ap (λ xs. set xs c.args.i c.args.item) c.self.view_is
