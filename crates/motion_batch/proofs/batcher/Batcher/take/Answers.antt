-- The row of the motion's device takes it.
use Rattle.std.proofs.Common.{◌≡◌, ◌≤◌, List, ◌∷◌, rules, sym, ◌∙◌, ap, subst}
use Rattle.std.proofs.lemmas.Result.{on_ok_weaker}
use Rattle.motion_batch.specs.declared.sample.Sample.{Sample}
use Rattle.motion_batch.specs.Calls.{IsOfDevice, RowsStandFor, taken}
use Rattle.motion_batch.specs.Rule.{kept_after}
use Rattle.motion_batch.proofs.Batched.{batched}
use Rattle.motion_batch.proofs.Rows.{row_taken}
use Rattle.motion_batch.proofs.batcher.Batcher.take.Goals as goal

pub returns-in-Motion-clause-stands : goal.returns-in-Motion-clause-stands
returns-in-Motion-clause-stands c calls stands =
    let device : c.from-row.result ≡ c.in-Motion.motion.device = c.from-row.ensures ∙ c.get.ensures.value in
    let low : 1 ≤ c.from-row.result = rw c.from-row.ensures c.get.ensures.range.0 in
    let high : c.from-row.result ≤ 8 = rw c.from-row.ensures c.get.ensures.range.1 in
    let inside : RowsStandFor calls c.self.inside.pending = subst (λ (rows : List (List Sample)). RowsStandFor calls rows) (sym c.self.view_is) stands in
    on_ok_weaker c.take.result
    (λ kept. row_taken calls c.self.inside.pending c.args.message.now c.in-Motion.motion c.from-row.result c.index-self-row.result c.take.new.self c.in-Motion.is device low high inside c.index-self-row.is
    (kept ∙ ap (λ ss. kept_after ss c.args.message.now) (sym c.index-self-row.is)))
    c.take.ensures.kept

pub returns-in-Motion-clause-batched : goal.returns-in-Motion-clause-batched
returns-in-Motion-clause-batched c calls stands =
    on_ok_weaker c.take.result (λ s. batched (taken c.args.message.now ∷ calls) s.devices_are) (returns-in-Motion-clause-stands c calls stands)

pub returns-in_ok-push-in-Key-clause-batched : goal.returns-in_ok-push-in-Key-clause-batched
returns-in_ok-push-in-Key-clause-batched c calls stands =
    let of : IsOfDevice c.args.message.now.body = search rules in
    batched (taken c.args.message.now ∷ calls) (of, stands.devices_are)
