-- One channel after another is compared.
use Rattle.std.proofs.Common.{◌≡◌, ◌+◌, sym, ap, ap₂, ◌∙◌, arith}
use Rattle.dispatch_history.specs.Effect.{past_of}
use Rattle.dispatch_history.specs.History.{opened}
use Rattle.dispatcher.proofs.Laws.Standing.{after_of}
use Rattle.live_input.specs.Order.{first_of, sooner}
use Rattle.live_input.proofs.Ordering.{first_more}
use Rattle.live_input.proofs.next_any.soonest.Goals as goal

pub loop-index-preserved : goal.loop-index-preserved
loop-index-preserved c = λ es r.
    c.sooner-first.ensures
    ∙ ap₂ (λ f p. sooner f (c.loop-index.index + 1) p) (c.loop-index.invariant es r) (c.place_of.ensures es r)
    ∙ sym (first_more es c.loop-index.index)

pub returns : goal.returns
returns c = λ es r.
    let value = c.opened-index-end.ensures.value es (after_of es c.args.dispatcher.now r.stands) in
    let test = c.loop-index-test.false in
    let most = c.loop-index.auto.index-end in
    let all : c.loop-index.index ≡ opened (past_of es) = omega (arith, value, test, most) in
    c.loop-index.invariant es r ∙ ap (first_of es) all
