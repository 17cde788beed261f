use Rattle.std.proofs.Common.{ℕ, List, flat_map, ap, ◌∙◌}
use Rattle.std.proofs.Math.Path.{fun_ext}
use Rattle.routing_rules.specs.Outgoing.{devices}
use Rattle.route_split.specs.Tables.{holds_at}
use Rattle.why_text.specs.Lost.{ids_item}
use Rattle.why_text.specs.Words.{ids_that}
use Rattle.why_lines.proofs.losing.ids_of.Goals as goal

pub returns : goal.returns
returns c es st =
    let w = c.args.window in
    c.row_of.ensures.items
    ∙ ap (λ (f : ℕ → List ℕ). flat_map (λ d. ids_item d (f d)) devices)
    (fun_ext
    (λ d. ap ids_that (fun_ext (λ i. ap (λ ts. holds_at ts w d i) c.touches.ensures.value ∙ (c.touches.ensures.reads es st).holds_are w d i))))
