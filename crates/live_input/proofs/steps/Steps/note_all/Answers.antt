-- One channel after another is recorded.
use Rattle.std.proofs.Common.{◌≡◌, arith}
use Rattle.dispatch_history.specs.Effect.{past_of}
use Rattle.dispatch_history.specs.History.{opened}
use Rattle.live_input.proofs.Noting.{noted_all, noted_more}
use Rattle.live_input.proofs.steps.Steps.note_all.Goals as goal

pub loop-place-preserved : goal.loop-place-preserved
loop-place-preserved c = λ es after.
    let few = c.opened-place-end.ensures.few in
    let test = c.loop-place-test.true in
    noted_more c.loop-place.place es c.args.self.now c.loop-place.self c.note.new.self (omega (arith, few, test)) (c.loop-place.invariant es after) (c.note.ensures es after)

pub returns : goal.returns
returns c = λ es after.
    let value = c.opened-place-end.ensures.value es after in
    let test = c.loop-place-test.false in
    let most = c.loop-place.auto.place-end in
    let all : c.loop-place.place ≡ opened (past_of es) = omega (arith, value, test, most) in
    noted_all c.args.dispatcher.now.displays es c.args.self.now c.loop-place.self c.loop-place.place after.lawful all (c.loop-place.invariant es after)
