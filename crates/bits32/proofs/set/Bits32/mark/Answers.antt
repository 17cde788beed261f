use Rattle.std.proofs.Common.{refl}
use Rattle.std.proofs.lemmas.Nat.{one_shl}
use Rattle.bits32.proofs.Members.{or_is_marked, is_in_marked}
use Rattle.bits32.proofs.set.Bits32.mark.Goals as goal

pub returns-clause-after : goal.returns-clause-after
returns-clause-after c =
    rw (one_shl c.args.n 32 c.requires, or_is_marked c.args.n c.self.inside.bits, c.self.view_is) refl

pub returns-clause-has : goal.returns-clause-has
returns-clause-has c =
    λ k. rw (one_shl c.args.n 32 c.requires, or_is_marked c.args.n c.self.inside.bits, c.self.view_is) (is_in_marked k c.args.n c.args.self.now)
