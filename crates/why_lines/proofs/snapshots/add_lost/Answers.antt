use Rattle.std.proofs.Common.{◌+◌, ◌∷◌, ◌++◌, map, ap, ap₂, ◌∙◌}
use Rattle.route_split.specs.Tables.{holds_at}
use Rattle.why_text.specs.Lost.{holds, key_item}
use Rattle.why_lines.specs.Gone.{gone_line, keys_gone}
use Rattle.why_lines.specs.Growing.{with_lines}
use Rattle.why_lines.proofs.Growing.{same_after}
use Rattle.why_lines.proofs.Held.{items_lost}
use Rattle.why_lines.proofs.snapshots.add_lost.Goals as goal

pub returns : goal.returns
returns c es x st hold quiet =
    let k = c.args.place in
    let w = k + 1 in
    let ks = c.held_keys.result.now in
    same_after c.add_gone.result c.add_gone.new.text.items _ _ c.add_gone.ensures
    (ap (λ items. with_lines c.args.clock (gone_line w items) c.args.text.now.items)
    (ap₂ (λ is js. is ++ map key_item js) (c.row_gone-ids.ensures (holds es w) (hold.rows_are k c.requires))
    (c.keys_gone-keys.ensures ∙ ap (keys_gone w ks) (c.target.ensures (x ∷ es) st))
    ∙ items_lost c.args.dispatcher.now.displays x es w (holds_at c.touches.result.now w) ks st.lawful quiet
    (λ d i. ap (λ ts. holds_at ts w d i) c.touches.ensures.value ∙ (c.touches.ensures.reads (x ∷ es) st).holds_are w d i)
    (c.held_keys.ensures ∙ hold.keys_are w)))
