use Rattle.std.proofs.Common.{◌&&◌, ◌||◌, ◌==◌, sym, ap, ap₂, ◌∙◌}
use Rattle.window_snapshot.specs.Mask.{mask_has}
use Rattle.window_snapshot.proofs.Masks.{mask_has-with}
use Rattle.route_split.proofs.Found.{symmetric}
use Rattle.why_lines.proofs.Keyed.{and_false, and_true, or_false}
use Rattle.why_lines.proofs.keys.with_keys.Goals as goal

pub returns-then-has_key_of : goal.returns-then-has_key_of
returns-then-has_key_of c w number =
    let v = c.args.holder.now.window in
    ap (λ m. mask_has m w) c.mask_with.ensures
    ∙ mask_has-with c.args.mask v w
    ∙ ap (λ b. mask_has c.args.mask w || b)
    (ap₂ (λ a b. a && b) number (symmetric v w)
    ∙ sym (and_true (w == v))
    ∙ ap (λ b. w == v && b) (sym c.if-has_key_of.true ∙ c.has_key_of.ensures))

pub returns-else-has_key_of : goal.returns-else-has_key_of
returns-else-has_key_of c w number =
    let v = c.args.holder.now.window in
    sym
    (ap (λ b. mask_has c.args.mask w || (w == v && b)) (sym c.has_key_of.ensures ∙ c.if-has_key_of.false)
    ∙ ap (λ b. mask_has c.args.mask w || b) (and_false (w == v))
    ∙ or_false (mask_has c.args.mask w))
