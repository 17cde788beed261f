use Rattle.std.proofs.Common.{◌≡◌, set, sym, ap, ap₂, ◌∙◌, subst, arith}
use Rattle.std.specs.List.{insert}
use Rattle.dispatcher.specs.CancelSynthesis.Tracked.{keys_before, is_at, with_key}
use Rattle.dispatcher.proofs.CancelSynthesis.KeyPlaces.{place_is_low, replaced, inserted}
use Rattle.dispatcher.proofs.cancel_synthesis.held_keys.keep.Goals as goal

pub returns-then-is_at-clause-items : goal.returns-then-is_at-clause-items
returns-then-is_at-clause-items c =
    let m = c.args.message.now in
    let ls = c.args.keys.now.items in
    let at = c.keys_before-place.ensures ∙ ap (keys_before m.key) c.deref.ensures.value in
    subst (λ n. set ls n m ≡ with_key m ls) (sym at)
    (replaced m ls m (sym (c.if-is_at.ensures.same m ∙ ap₂ (λ xs n. is_at m.key xs n m) c.deref-2.ensures.value at)))

pub insert-requires : goal.insert-requires
insert-requires c =
    omega (arith, place_is_low c.args.message.now.key c.deref.result.now, c.keys_before-place.ensures, c.deref.ensures.len)

pub returns-clause-items : goal.returns-clause-items
returns-clause-items c =
    let m = c.args.message.now in
    let ls = c.args.keys.now.items in
    let at = c.keys_before-place.ensures ∙ ap (keys_before m.key) c.deref.ensures.value in
    c.in_ok-insert.ensures.items
    ∙ ap (λ n. insert ls n m) at
    ∙ inserted m ls m (sym (c.if-is_at.ensures.same m ∙ ap₂ (λ xs n. is_at m.key xs n m) c.deref-2.ensures.value at))
