use Rattle.std.proofs.Common.{◌∙◌, ◌++◌, map, drop, length, refl, ap, arith}
use Rattle.inputflinger_c.specs.Keys.{plain_key}
use Rattle.inputflinger_c.proofs.judge_exports.send_keys.Goals as goal

pub returns-then-places-len : goal.returns-then-places-len
returns-then-places-len c = record {
  keys = c.in-Ok.keys.items;
  rising = c.in-Ok.ensures.rising;
  exact = c.in-Ok.ensures.exact;
  counted = omega (arith, c.len.ensures, c.in-Ok.keys.ok);
  one = refl;
  ok = λ e. absurd (omega arith);
  small = λ e. (omega (arith, c.if-places-len.true, c.len.ensures, c.in-Ok.keys.ok), refl);
}

pub returns-else-places-len : goal.returns-else-places-len
returns-else-places-len c = record {
  keys = c.in-Ok.keys.items;
  rising = c.in-Ok.ensures.rising;
  exact = c.in-Ok.ensures.exact;
  counted = omega (arith, c.len.ensures, c.in-Ok.keys.ok);
  one = refl;
  ok = λ e. c.write_keys.ensures ∙ ap (λ ks. map plain_key ks ++ drop (length ks) c.args.places.now) c.deref.ensures.value;
  small = λ e. absurd (omega arith);
}

pub returns-in-Err : goal.returns-in-Err
returns-in-Err c = (refl, refl)
