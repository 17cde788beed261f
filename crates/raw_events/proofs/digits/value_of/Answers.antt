use Rattle.std.proofs.Common.{◌≡◌, map, get_or, refl, ap, ◌∙◌, ◌<◌, rules, arith}
use Rattle.std.specs.Char.{digit_value}
use Rattle.std.specs.List.{range_with_len}
use Rattle.std.proofs.lemmas.List.FromFn.{get_or-map-range_with_len}
use Rattle.raw_events.specs.declared.digits.TheConstants.{VALUES}
use Rattle.raw_events.proofs.digits.value_of.Goals as goal

table : VALUES ≡ map digit_value (range_with_len 0 256)
table = refl

pub returns : goal.returns
returns c =
    let small : c.args.b < 256 = search rules in
    ap (λ values. get_or values c.args.b 0) table ∙ get_or-map-range_with_len digit_value 0 256 c.args.b c.args.b 0 small (omega arith)
