-- Everything due is done after what must still be handed in.
use Rattle.std.proofs.lemmas.Bool.{true≢false}
use Rattle.std.proofs.Common.{inl, inr, ◌∙◌, sym, ap, arith, length, subst}
use Rattle.live_input.specs.Advancing.{Advanced, Advances}
use Rattle.live_input.specs.Giving.{HandedInPart, notified}
use Rattle.live_input.specs.Settling.{next_due}
use Rattle.live_input.specs.Standing.{IsMaskOfHeld, LiveIs}
use Rattle.live_input.specs.State.{LiveState}
use Rattle.live_input.proofs.Handing.{advanced_from, advances_from, live_later}
use Rattle.live_input.proofs.Results.{if_ok, on_err}
use Rattle.live_input.proofs.live.Live.advance.Goals as goal

pub returns-in-Ok-clause-ok : goal.returns-in-Ok-clause-ok
returns-in-Ok-clause-ok c = λ ds es h.
    let rest = c.raise-now.ensures.rest in
    let there = subst (LiveIs ds es) (sym rest) (live_later ds es _ _ h) in
    let old = c.args.self.now in let new = c.catch_up.new.self in
    if_ok c.catch_up.result _ _ (c.catch_up.ensures.ok ds _ (c.in-Ok.ensures.after ds es there))
    (λ mask a.
    subst (λ n. Advanced ds n (notified ds n es old.pending) mask old new) c.raise-now.ensures.latest
    (subst (λ ps. Advanced ds c.raise-now.result (notified ds c.raise-now.result es ps) mask old new) (ap (λ (s : LiveState). s.pending) rest)
    (advanced_from ds c.raise-now.result _ mask _ _ _ (c.hand_in.ensures.named ∙ ap (λ (s : LiveState). s.reported) rest) a)))

pub returns-in-Ok-clause-reported : goal.returns-in-Ok-clause-reported
returns-in-Ok-clause-reported c = λ ds es h.
    let rest = c.raise-now.ensures.rest in
    let there = subst (LiveIs ds es) (sym rest) (live_later ds es _ _ h) in
    if_ok c.catch_up.result _ _ (c.catch_up.ensures.reported ds _ (c.in-Ok.ensures.after ds es there))
    (λ mask is. subst (IsMaskOfHeld mask) (c.hand_in.ensures.seats.seats_are ∙ ap (λ (s : LiveState). s.seats) rest) is)

pub returns-in-Ok-clause-err : goal.returns-in-Ok-clause-err
returns-in-Ok-clause-err c = λ ds es h.
    let rest = c.raise-now.ensures.rest in
    let there = subst (LiveIs ds es) (sym rest) (live_later ds es _ _ h) in
    let old = c.args.self.now in let new = c.catch_up.new.self in
    on_err c.catch_up.result _ _ (c.catch_up.ensures.err ds _ (c.in-Ok.ensures.after ds es there))
    (λ a.
    inr
    (subst (λ n. Advances ds n (notified ds n es old.pending) old new) c.raise-now.ensures.latest
    (subst (λ ps. Advances ds c.raise-now.result (notified ds c.raise-now.result es ps) old new) (ap (λ (s : LiveState). s.pending) rest)
    (advances_from ds c.raise-now.result _ _ _ _ (c.hand_in.ensures.named ∙ ap (λ (s : LiveState). s.reported) rest) a))))

pub returns-in-Err-clause-err : goal.returns-in-Err-clause-err
returns-in-Err-clause-err c = λ ds es h.
    let rest = c.raise-now.ensures.rest in
    let there = subst (LiveIs ds es) (sym rest) (live_later ds es _ _ h) in
    let old = c.args.self.now in let new = c.hand_in.new.self in
    inl
    (subst (λ n. HandedInPart ds n es old.pending new) c.raise-now.ensures.latest
    (subst (λ ps. HandedInPart ds c.raise-now.result es ps new) (ap (λ (s : LiveState). s.pending) rest) (c.in-Err.ensures.part ds es there)))

pub returns-in-Ok-clause-still : goal.returns-in-Ok-clause-still
returns-in-Ok-clause-still c = λ ds es h may none quiet.
    let rest = c.raise-now.ensures.rest in
    let there = subst (LiveIs ds es) (sym rest) (live_later ds es _ _ h) in
    let same = ap (λ ps. notified ds c.raise-now.result es ps) (ap (λ (s : LiveState). s.pending) rest ∙ none) in
    c.catch_up.ensures.still ds _ (c.in-Ok.ensures.after ds es there)
    (ap (next_due c.raise-now.result) same ∙ ap (λ n. next_due n es) c.raise-now.ensures.latest ∙ quiet)

pub returns-in-Err-clause-still : goal.returns-in-Err-clause-still
returns-in-Err-clause-still c = λ ds es h may none quiet.
    let rest = c.raise-now.ensures.rest in
    let there = subst (LiveIs ds es) (sym rest) (live_later ds es _ _ h) in
    let empty = ap length (ap (λ (s : LiveState). s.pending) rest ∙ none) in
    absurd (true≢false (sym (c.in-Err.ensures.reserved ds es there (omega (arith, empty)) (omega (arith, empty, may)))))
