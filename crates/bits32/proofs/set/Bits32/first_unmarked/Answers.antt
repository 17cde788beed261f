use Rattle.std.proofs.Common.{◌≡◌, ◌^◌, ◌-◌, arith, refl}
use Rattle.std.specs.Int.{w32}
use Rattle.std.proofs.lemmas.Nat.Bits.{bit_at-trailing_ones, bit_at_ones}
use Rattle.bits32.proofs.set.Bits32.first_unmarked.Goals as goal

pub returns-then-self : goal.returns-then-self
returns-then-self c =
    let all : c.args.self ≡ 2 ^ 32 - 1 = omega arith in
    λ n h. rw (all, bit_at_ones 32 n h) refl

pub returns : goal.returns
returns c =
    let place = bit_at-trailing_ones w32 c.self.inside.bits (omega arith) in
    rw (c.trailing_ones.ensures, ← c.self.view_is)
    (record { below = place.0; unmarked = rw place.1 refl; least = λ k h. rw (place.2 k h) refl })
