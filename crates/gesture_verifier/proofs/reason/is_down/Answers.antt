-- An id below 32 is listed if its bit is set, and no other id is.
use Rattle.std.proofs.Common.{refl, ◌≡◌, ◌≤◌, ℕ, arith, Bool, ◌&&◌, true, false, nat_lt}
use Rattle.std.proofs.lemmas.Bool.{lt-ltb}
use Rattle.std.proofs.lemmas.Bool.Decides.{nat_tests}
use Rattle.bits32.specs.Set.{is_in}
use Rattle.gesture_verifier.proofs.Reasons.{listed_any}
use Rattle.gesture_verifier.proofs.reason.is_down.Goals as goal

both : (a b r : Bool) → a ≡ true → r ≡ b → r ≡ (a && b)
both true b r h e = e
both false b r h e = absurd (cc)

neither : (a b : Bool) → a ≡ false → a ≡ (a && b)
neither true b h = absurd (cc)
neither false b h = refl

no_less : (n : ℕ) → 32 ≤ n → nat_lt n 32 ≡ false
no_less n h = grind (arith, nat_tests)

pub returns-then-id-lt32 : goal.returns-then-id-lt32
returns-then-id-lt32 c =
    rw (c.in-Some.is, listed_any 32 c.args.held c.in-Some.id)
    (both (nat_lt c.in-Some.id 32) (is_in c.in-Some.id c.args.held) c.has.result (lt-ltb c.in-Some.id 32 c.if-id-lt32.true) c.has.ensures)

pub returns-else-id-lt32 : goal.returns-else-id-lt32
returns-else-id-lt32 c =
    rw (c.in-Some.is, listed_any 32 c.args.held c.in-Some.id) (neither (nat_lt c.in-Some.id 32) (is_in c.in-Some.id c.args.held) (no_less c.in-Some.id c.if-id-lt32.false))
