use Rattle.std.proofs.Common.{◌≡◌, ◌∙◌, ◌+◌, ◌-◌, ap, arith}
use Rattle.std.specs.Prelude.{slice_set}
use Rattle.plain_calls.proofs.screens.put.Goals as goal

pub returns : goal.returns
returns c =
    let number : c.unwrap-device.result ≡ c.args.place + 1 = rw c.unwrap-device.ensures at c.new.ensures.value in
    let place : c.unwrap-device.result - 1 ≡ c.args.place = omega (arith, number) in
    let display : c.unwrap-display.result ≡ c.args.number = rw c.unwrap-display.ensures at c.new-2.ensures.value in
    c.set.ensures.after ∙ ap (λ n. slice_set c.args.displays.now n c.unwrap-display.result) place
    ∙ ap (slice_set c.args.displays.now c.args.place) display
