use Rattle.std.proofs.Common.{◌∙◌, ◌++◌, ◌<◌, map, take, drop, set, length, ap, arith}
use Rattle.plain_calls.specs.Told.{plain_pointer}
use Rattle.plain_calls.proofs.Written.{written_more}
use Rattle.plain_calls.proofs.told.write_pointers.Goals as goal

pub loop-i-preserved : goal.loop-i-preserved
loop-i-preserved c =
    let pointers = c.args.pointers.now in let places = c.args.places.now in let i = c.loop-i.i in
    let below : i < length pointers = omega (arith, c.loop-i-test.true) in
    record {
      written = ap (λ ps. set ps i c.plain_pointer.result) c.loop-i.invariant.written
          ∙ ap (λ p. set (map plain_pointer (take i pointers) ++ drop i places) i p) (c.plain_pointer.ensures ∙ ap plain_pointer c.index-pointers-i.is)
          ∙ written_more plain_pointer pointers places i _ below c.loop-i.invariant.room;
      room = c.loop-i.invariant.room;
    }
