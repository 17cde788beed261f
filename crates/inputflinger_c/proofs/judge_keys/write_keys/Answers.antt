use Rattle.std.proofs.Common.{◌∙◌, ◌++◌, ◌<◌, map, take, drop, set, length, ap, arith}
use Rattle.inputflinger_c.specs.Keys.{plain_key}
use Rattle.plain_calls.proofs.Written.{written_more}
use Rattle.inputflinger_c.proofs.judge_keys.write_keys.Goals as goal

pub loop-i-preserved : goal.loop-i-preserved
loop-i-preserved c =
    let keys = c.args.keys.now in let places = c.args.places.now in let i = c.loop-i.i in
    let below : i < length keys = omega (arith, c.loop-i-test.true) in
    record {
      written = ap (λ ps. set ps i c.plain_key.result) c.loop-i.invariant.written
          ∙ ap (λ k. set (map plain_key (take i keys) ++ drop i places) i k) (c.plain_key.ensures ∙ ap plain_key c.index-keys-i.is)
          ∙ written_more plain_key keys places i _ below c.loop-i.invariant.room;
      room = c.loop-i.invariant.room;
    }
