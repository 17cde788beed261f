use Rattle.std.proofs.Common.{Bool, true, false, not, ◌≡◌, ◌&&◌, refl, sym, ap, ◌∙◌}
use Rattle.std.proofs.lemmas.Nat.Bits.{bit_at-zero}
use Rattle.bits32.specs.Set.{is_in}
use Rattle.route_split.proofs.sets.lost_of.Goals as goal

nothing_lost : (b : Bool) → false ≡ (b && not b)
nothing_lost true = refl
nothing_lost false = refl

pub returns-then-bits : goal.returns-then-bits
returns-then-bits c i =
    ap (is_in i) c.empty.ensures ∙ (rw (bit_at-zero i) refl) ∙ nothing_lost (is_in i c.args.before)
    ∙ ap (λ n. is_in i c.args.before && not (is_in i n)) (sym c.bits.ensures ∙ c.if-bits.true ∙ c.bits-2.ensures)
