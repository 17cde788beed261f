use Rattle.std.proofs.Common.{rules}
use Rattle.turnstile.proofs.Dealing.{opens_as}
use Rattle.turnstile.proofs.turnstile.Turnstile.new.Goals as goal

pub new-requires : goal.new-requires
new-requires g c =
    opens_as g.M.Machine.legal g.M.Machine.setup g.M.Machine.history c.args.machine c.of-about.result.value c.push_reserved.new.self.items
    c.of-about.ensures (search rules) c.requires (g.met.M.Machine.empty _)
