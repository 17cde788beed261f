use Rattle.std.specs.Prelude.{◌≡◌, ℕ, ◌+◌, ◌*◌, ◌^◌, ◌<◌, ◌≤◌, nat_lt, if◌then◌else◌, true, false, List, ◌++◌, map, get_or}
use Rattle.std.proofs.Common.{zero, suc, refl, ap, ◌∙◌, sym, subst, rules, arith}
use Rattle.std.specs.Char.{digit_value}
use Rattle.std.specs.List.{range_with_len}
use Rattle.std.proofs.lemmas.List.{get_or_append_left, get_or-append-add}
use Rattle.std.proofs.lemmas.List.FromFn.{get_or-map-range_with_len}
use Rattle.raw_events.specs.declared.digits.TheConstants.{HEX_PLACES}
use Rattle.raw_events.proofs.digits.hex_place.Goals as goal

-- the value of a digit of this weight, and of a byte that is no digit
abbrev weighed : ℕ → ℕ → ℕ
weighed weight v = if nat_lt v 16 then weight * v else 65536

abbrev place : ℕ → List ℕ
place weight = map (λ b. weighed weight (digit_value b)) (range_with_len 0 256)

table : HEX_PLACES ≡ place 1 ++ (place 16 ++ (place 256 ++ place 4096))
table = refl

in_place : (weight b : ℕ) → b < 256 → get_or (place weight) b 0 ≡ weighed weight (digit_value b)
in_place weight b small = get_or-map-range_with_len (λ b. weighed weight (digit_value b)) 0 256 b b 0 small (omega arith)

at : (behind b : ℕ) → behind < 4 → b < 256 → get_or HEX_PLACES (behind * 256 + b) 0 ≡ weighed (16 ^ behind) (digit_value b)
at zero b h small =
    let near : 0 * 256 + b ≡ b = omega arith in
    ap (λ i. get_or HEX_PLACES i 0) near ∙ (ap (λ ns. get_or ns b 0) table ∙ (get_or_append_left (place 1) (place 16 ++ (place 256 ++ place 4096)) 0 b small ∙ in_place 1 b small))
at (suc zero) b h small =
    let far : 1 * 256 + b ≡ 256 + b = omega arith in
    ap (λ i. get_or HEX_PLACES i 0) far ∙ (ap (λ ns. get_or ns (256 + b) 0) table
    ∙ (get_or-append-add (place 1) (place 16 ++ (place 256 ++ place 4096)) b 0 ∙ (get_or_append_left (place 16) (place 256 ++ place 4096) 0 b small ∙ in_place 16 b small)))
at (suc (suc zero)) b h small =
    let far : 2 * 256 + b ≡ 256 + (256 + b) = omega arith in
    ap (λ i. get_or HEX_PLACES i 0) far ∙ (ap (λ ns. get_or ns (256 + (256 + b)) 0) table
    ∙ (get_or-append-add (place 1) (place 16 ++ (place 256 ++ place 4096)) (256 + b) 0
    ∙ (get_or-append-add (place 16) (place 256 ++ place 4096) b 0 ∙ (get_or_append_left (place 256) (place 4096) 0 b small ∙ in_place 256 b small))))
at (suc (suc (suc zero))) b h small =
    let far : 3 * 256 + b ≡ 256 + (256 + (256 + b)) = omega arith in
    ap (λ i. get_or HEX_PLACES i 0) far ∙ (ap (λ ns. get_or ns (256 + (256 + (256 + b))) 0) table
    ∙ (get_or-append-add (place 1) (place 16 ++ (place 256 ++ place 4096)) (256 + (256 + b)) 0
    ∙ (get_or-append-add (place 16) (place 256 ++ place 4096) (256 + b) 0 ∙ (get_or-append-add (place 256) (place 4096) b 0 ∙ in_place 4096 b small))))
at (suc (suc (suc (suc behind)))) b h small = absurd (omega (arith, h))

-- a value below that of no digit is the digit's
is_digit_below : (weight v : ℕ) → weighed weight v < 65536 → (weighed weight v ≡ weight * v) × (v < 16)
is_digit_below weight v =
    (elim (nat_lt v 16) as (λ t. nat_lt v 16 ≡ t → (if t then weight * v else 65536) < 65536 → ((if t then weight * v else 65536) ≡ weight * v) × (v < 16)) [
      | true ↦ λ e h. let below : v < 16 = search (rules, e) in (refl, below)
      | false ↦ λ e h. absurd (omega (arith, h))
    ]) refl

bounded : (weight v : ℕ) → (v < 16 → weight * v ≤ 65536) → weighed weight v ≤ 65536
bounded weight v =
    (elim (nat_lt v 16) as (λ t. nat_lt v 16 ≡ t → (v < 16 → weight * v ≤ 65536) → (if t then weight * v else 65536) ≤ 65536) [
      | true ↦ λ e k. let below : v < 16 = search (rules, e) in k below
      | false ↦ λ e k. omega arith
    ]) refl

within : (behind v : ℕ) → behind < 4 → weighed (16 ^ behind) v ≤ 65536
within zero v h = bounded 1 v (λ k. omega (arith, k))
within (suc zero) v h = bounded 16 v (λ k. omega (arith, k))
within (suc (suc zero)) v h = bounded 256 v (λ k. omega (arith, k))
within (suc (suc (suc zero))) v h = bounded 4096 v (λ k. omega (arith, k))
within (suc (suc (suc (suc behind)))) v h = absurd (omega (arith, h))

pub returns-clause-digit : goal.returns-clause-digit
returns-clause-digit c =
    let small : c.args.b < 256 = search rules in
    subst (λ r. r < 65536 → (r ≡ 16 ^ c.args.behind * digit_value c.args.b) × (digit_value c.args.b < 16)) (sym (at c.args.behind c.args.b c.requires small))
    (is_digit_below (16 ^ c.args.behind) (digit_value c.args.b))

pub returns-clause-bound : goal.returns-clause-bound
returns-clause-bound c =
    let small : c.args.b < 256 = search rules in
    subst (λ r. r ≤ 65536) (sym (at c.args.behind c.args.b c.requires small)) (within c.args.behind (digit_value c.args.b) c.requires)
