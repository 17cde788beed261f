-- One test after another.
use Rattle.std.proofs.Common.{sym, ap, ◌∙◌}
use Rattle.std.proofs.lemmas.Bool.{true≢false}
use Rattle.window_snapshot.specs.Mask.{mask_has}
use Rattle.live_input.proofs.ChokedNext.{calm_same, choked_by}
use Rattle.live_input.proofs.Eased.{calm_is}
use Rattle.live_input.proofs.limit.Limited.is_calm.Goals as goal

pub returns-then-not-is_shown : goal.returns-then-not-is_shown
returns-then-not-is_shown c = λ ds es h k. true≢false (sym k.shown ∙ sym c.is_shown.ensures ∙ c.if-not-is_shown.true)

pub returns-then-differ : goal.returns-then-differ
returns-then-differ c = λ ds es h k.
    let s = c.args.self.now in
    let are = choked_by es s.live.seats _ _ _ _ _ c.most.ensures c.choked-before.ensures (c.choked_after-choked.ensures ds es h) in
    c.differ.ensures.other c.if-differ.true
    (λ i. calm_same es s c.choked_after-choked.result k are i ∙ sym (ap (λ m. mask_has m i) c.choked-before.ensures))

pub returns : goal.returns
returns c = λ ds es h.
    let s = c.args.self.now in
    let are = choked_by es s.live.seats _ _ _ _ _ c.most.ensures c.choked-before.ensures (c.choked_after-choked.ensures ds es h) in
    calm_is es s c.are_asked.result (λ i. sym (are i) ∙ ap (λ m. mask_has m i) (c.differ.ensures.same c.if-differ.false ∙ c.choked-before.ensures))
    (sym c.is_shown.ensures ∙ c.if-not-is_shown.false) (c.are_asked.ensures ds es h)
