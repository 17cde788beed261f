use Rattle.std.proofs.Common.{ap₂, ◌∙◌}
use Rattle.std.proofs.Math.Path.{fun_ext}
use Rattle.why_lines.specs.Holding.{if_able}
use Rattle.why_lines.proofs.holders.given_key.Goals as goal

pub returns : goal.returns
returns c es st = c.if_able.ensures ∙ ap₂ if_able (fun_ext (c.able.ensures es st)) (c.target.ensures es st)
