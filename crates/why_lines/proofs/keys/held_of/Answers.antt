use Rattle.std.proofs.Common.{◌||◌, ◌==◌, sym, ap, ap₂, ◌∙◌, subst}
use Rattle.std.specs.List.{list_any}
use Rattle.window_snapshot.specs.Mask.{mask_has}
use Rattle.route_split.specs.Tables.{any_at}
use Rattle.dispatcher.proofs.Laws.ShownLaws.{touches_scene_law}
use Rattle.why_lines.specs.Holding.{HoldKeys, OnlyHolds}
use Rattle.why_lines.proofs.Keyed.{held_of_device, or_false}
use Rattle.why_lines.proofs.keys.held_of.Goals as goal

pub returns-in-Some : goal.returns-in-Some
returns-in-Some c es st w number =
    let d = c.args.dispatcher.now in
    let only : OnlyHolds es c.in-Some.holder = subst (HoldKeys es) c.in-Some.is (c.key_holder.ensures es st) in
    c.with_keys.ensures w number
    ∙ ap₂ (λ a b. a || b)
    (c.holders-mask.ensures w
    ∙ ap (λ ts. any_at ts w c.args.device) c.touches.ensures.value
    ∙ sym (ap (λ f. f w c.args.device) (touches_scene_law d.displays es d.touches st.knows.touches).any_are))
    (sym (held_of_device es c.in-Some.holder c.args.device w only))

pub returns-in-None : goal.returns-in-None
returns-in-None c es st w number =
    let d = c.args.dispatcher.now in
    let none = subst (HoldKeys es) c.in-None.is (c.key_holder.ensures es st) in
    sym (or_false (mask_has c.holders-mask.result w))
    ∙ ap₂ (λ a b. a || b)
    (c.holders-mask.ensures w
    ∙ ap (λ ts. any_at ts w c.args.device) c.touches.ensures.value
    ∙ sym (ap (λ f. f w c.args.device) (touches_scene_law d.displays es d.touches st.knows.touches).any_are))
    (sym (ap (list_any (λ k. k.device == c.args.device)) (none w)))
