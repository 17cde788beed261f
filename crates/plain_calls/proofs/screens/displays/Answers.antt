use Rattle.std.proofs.Common.{ℕ, ◌∙◌, ◌<◌, ◌≤◌, List, length, replicate, get_or, ap, arith}
use Rattle.std.specs.Prelude.{slice_set}
use Rattle.plain_calls.proofs.Written.{copied_more}
use Rattle.plain_calls.proofs.screens.displays.Goals as goal

pub loop-i-preserved : goal.loop-i-preserved
loop-i-preserved c =
    let numbers : List ℕ = c.args.numbers.now in let i : ℕ = c.loop-i.i in
    let blank : List ℕ = replicate 8 0 in
    let below : i < length numbers = omega (arith, c.loop-i-test.true, c.told-numbers) in
    let room : length numbers ≤ 8 = omega (arith, c.told-numbers) in
    record {
      written = c.put.ensures ∙ ap (λ ds. slice_set ds i (get_or numbers i 0)) c.loop-i.invariant.written
          ∙ copied_more numbers blank i 0 below room;
    }
