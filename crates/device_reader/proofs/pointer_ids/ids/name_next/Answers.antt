-- Where the fingers only moved, there is no palm, so no id is cancelled.
use Rattle.std.specs.Prelude.{◌≡◌, true}
use Rattle.std.proofs.Common.{sym, ◌∙◌, ap}
use Rattle.bits32.specs.Set.{is_in}
use Rattle.device_reader.specs.PointerIds.Following.{are_same}
use Rattle.device_reader.proofs.PointerIds.Following.{no_palms}
use Rattle.device_reader.proofs.PointerIds.Palms.{none_cancelled}
use Rattle.device_reader.proofs.PointerIds.Taken.{none_in}
use Rattle.device_reader.proofs.pointer_ids.ids.name_next.Goals as goal

pub returns-then-are_same-clause-cancelled : goal.returns-then-are_same-clause-cancelled
returns-then-are_same-clause-cancelled c = λ k.
    let same : are_same c.args.last.now c.args.now.now ≡ true =
    ap (λ ns. are_same ns c.args.now.now) (sym c.as_slice.ensures.value)
    ∙ ap (λ cs. are_same c.as_slice.result.now cs) (sym c.as_slice-2.ensures.value)
    ∙ sym c.are_same.ensures
    ∙ c.if-are_same.true in
    ap (λ ids. is_in k ids) c.empty.ensures
    ∙ none_in k
    ∙ sym (none_cancelled c.args.last.now c.args.now.now k (no_palms c.args.last.now c.args.now.now same))
