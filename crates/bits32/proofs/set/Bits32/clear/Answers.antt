use Rattle.std.proofs.Common.{arith, refl}
use Rattle.std.proofs.lemmas.Nat.{one_shl}
use Rattle.bits32.proofs.Members.{and_is_cleared, is_in_cleared}
use Rattle.bits32.proofs.set.Bits32.clear.Goals as goal

pub returns-clause-after : goal.returns-clause-after
returns-clause-after c =
    rw (one_shl c.args.n 32 c.requires, and_is_cleared c.args.n c.self.inside.bits c.requires c.self.invariant, c.self.view_is) refl

pub returns-clause-has : goal.returns-clause-has
returns-clause-has c =
    λ k. rw (one_shl c.args.n 32 c.requires, and_is_cleared c.args.n c.self.inside.bits c.requires c.self.invariant) (rw c.self.view_is (is_in_cleared k c.args.n c.args.self.now c.requires (omega arith)))
