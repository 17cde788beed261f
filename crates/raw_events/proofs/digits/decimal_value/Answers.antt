use Rattle.std.specs.Prelude.{◌≡◌, ℕ, ◌<◌, ◌≤◌, nat_lt, if◌then◌else◌, true, false, map, get_or}
use Rattle.std.proofs.Common.{refl, ap, ◌∙◌, sym, subst, rules, arith}
use Rattle.std.specs.Char.{digit_value}
use Rattle.std.specs.List.{range_with_len}
use Rattle.std.proofs.lemmas.List.FromFn.{get_or-map-range_with_len}
use Rattle.raw_events.specs.declared.digits.TheConstants.{DECIMAL_VALUES}
use Rattle.raw_events.proofs.digits.decimal_value.Goals as goal

abbrev decimal : ℕ → ℕ
decimal b = if nat_lt (digit_value b) 10 then digit_value b else 1000

table : DECIMAL_VALUES ≡ map decimal (range_with_len 0 256)
table = refl

-- a value below that of no digit is the digit's
is_digit_below : (v : ℕ) → (if nat_lt v 10 then v else 1000) < 1000
    → ((if nat_lt v 10 then v else 1000) ≡ v) × ((if nat_lt v 10 then v else 1000) < 10)
is_digit_below v =
    (elim (nat_lt v 10) as (λ t. nat_lt v 10 ≡ t → (if t then v else 1000) < 1000 → ((if t then v else 1000) ≡ v) × ((if t then v else 1000) < 10)) [
      | true ↦ λ e h. let below : v < 10 = search (rules, e) in (refl, below)
      | false ↦ λ e h. absurd (omega (arith, h))
    ]) refl

within : (v : ℕ) → (if nat_lt v 10 then v else 1000) ≤ 1000
within v =
    (elim (nat_lt v 10) as (λ t. nat_lt v 10 ≡ t → (if t then v else 1000) ≤ 1000) [
      | true ↦ λ e. let below : v < 10 = search (rules, e) in omega (arith, below)
      | false ↦ λ e. omega arith
    ]) refl

at : (b : ℕ) → b < 256 → get_or DECIMAL_VALUES b 0 ≡ decimal b
at b small = ap (λ values. get_or values b 0) table ∙ get_or-map-range_with_len decimal 0 256 b b 0 small (omega arith)

pub returns-clause-digit : goal.returns-clause-digit
returns-clause-digit c =
    let small : c.args.b < 256 = search rules in
    subst (λ r. r < 1000 → (r ≡ digit_value c.args.b) × (r < 10)) (sym (at c.args.b small)) (is_digit_below (digit_value c.args.b))

pub returns-clause-bound : goal.returns-clause-bound
returns-clause-bound c =
    let small : c.args.b < 256 = search rules in
    subst (λ r. r ≤ 1000) (sym (at c.args.b small)) (within (digit_value c.args.b))
